-- A place whose item may have been moved out takes as many bytes as the item.
use Rattle.std.proofs.Common.{◌≡◌, ℕ, ◌+◌, ◌-◌, ◌%◌, [], refl, sym, ap, ◌∙◌, arith}
use Prim.Native.Nat.{max}
use mir.Syntax.{Ty, Width, w8, w16, w32, w64, w128, tcons, tnil, ty_struct}
use mir.Val.{bytes}
use prog.Memory.{size, align, up}
use prog.Align.{dv→, dv_self, dv_zero, align_size, align-bytes}

max_bytes : (w : Width) → max (bytes w) 1 ≡ bytes w
max_bytes w8 = refl
max_bytes w16 = refl
max_bytes w32 = refl
max_bytes w64 = refl
max_bytes w128 = refl

-- a multiple of an alignment is rounded up to itself
up_multiple : (k n : ℕ) → n % k ≡ 0 → k % k ≡ 0 → up k n ≡ n
up_multiple k n none self =
    let whole : k - 0 ≡ k = omega arith in
    let rest : n + 0 ≡ n = omega arith in
    ap (λ m. n + (k - m) % k) none ∙ (ap (λ m. n + m % k) whole ∙ (ap (λ m. n + m) self ∙ rest))

pub size-one_field : (τ : Ty) → size (ty_struct [] (tcons τ tnil)) ≡ size τ
size-one_field τ =
    let alignment : max (align τ) 1 ≡ align τ = ap (λ n. max n 1) (align-bytes τ) ∙ (max_bytes _ ∙ sym (align-bytes τ)) in
    let none : 0 + size τ ≡ size τ = omega arith in
    let self = dv→ (align τ) (align τ) (dv_self (align τ)) in
    ap (λ k. up k (up (align τ) 0 + size τ)) alignment
    ∙ (ap (λ n. up (align τ) (n + size τ)) (up_multiple (align τ) 0 (dv→ (align τ) 0 (dv_zero (align τ))) self)
    ∙ (ap (up (align τ)) none ∙ up_multiple (align τ) (size τ) (dv→ (align τ) (size τ) (align_size τ)) self))
