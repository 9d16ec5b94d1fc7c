-- Bytes of readers and writers, known or not: kept, then appended, then consumed.
use Rattle.std.proofs.Common.{ℕ, List, [], ◌++◌, Option, Some, None, refl, sym, ap, ◌∙◌, append_assoc, append-nil}
use Rattle.std.specs.Io.KnownBytes.{Keeps, Appends, Consumes}

pub Keeps_refl : (a : Option (List ℕ)) → Keeps a a
Keeps_refl None = tt
Keeps_refl (Some xs) = refl

pub Keeps_trans : (a b c : Option (List ℕ)) → Keeps a b → Keeps b c → Keeps a c
Keeps_trans None b c p q = tt
Keeps_trans (Some x) None c p q = absurd p
Keeps_trans (Some x) (Some y) None p q = absurd q
Keeps_trans (Some x) (Some y) (Some z) p q = q ∙ p

pub Keeps_Appends : (a b c : Option (List ℕ)) (xs : List ℕ) → Keeps a b → Appends b c xs → Appends a c xs
Keeps_Appends None b c xs p q = tt
Keeps_Appends (Some x) None c xs p q = absurd p
Keeps_Appends (Some x) (Some y) None xs p q = absurd q
Keeps_Appends (Some x) (Some y) (Some z) xs p q = q ∙ ap (λ l. l ++ xs) p

pub Appends-Keeps : (a b c : Option (List ℕ)) (xs : List ℕ) → Appends a b xs → Keeps b c → Appends a c xs
Appends-Keeps None b c xs p q = tt
Appends-Keeps (Some x) None c xs p q = absurd p
Appends-Keeps (Some x) (Some y) None xs p q = absurd q
Appends-Keeps (Some x) (Some y) (Some z) xs p q = q ∙ p

pub Appends-nil : (a : Option (List ℕ)) → Appends a a []
Appends-nil None = tt
Appends-nil (Some xs) = sym (append-nil xs)

pub Appends-append : (a b c : Option (List ℕ)) (xs ys : List ℕ) → Appends a b xs → Appends b c ys → Appends a c (xs ++ ys)
Appends-append None b c xs ys p q = tt
Appends-append (Some x) None c xs ys p q = absurd p
Appends-append (Some x) (Some y) None xs ys p q = absurd q
Appends-append (Some x) (Some y) (Some z) xs ys p q = q ∙ ap (λ l. l ++ ys) p ∙ append_assoc x xs ys

pub Consumes-nil : (a : Option (List ℕ)) → Consumes a a []
Consumes-nil None = tt
Consumes-nil (Some xs) = refl

pub Consumes-append : (a b c : Option (List ℕ)) (xs ys : List ℕ) → Consumes a b xs → Consumes b c ys → Consumes a c (xs ++ ys)
Consumes-append None b c xs ys p q = tt
Consumes-append (Some x) None c xs ys p q = absurd p
Consumes-append (Some x) (Some y) None xs ys p q = absurd q
Consumes-append (Some x) (Some y) (Some z) xs ys p q = p ∙ ap (λ l. xs ++ l) q ∙ sym (append_assoc xs ys z)

pub Consumes-Keeps : (a b c : Option (List ℕ)) (xs : List ℕ) → Consumes a b xs → Keeps b c → Consumes a c xs
Consumes-Keeps None b c xs p q = tt
Consumes-Keeps (Some x) None c xs p q = absurd p
Consumes-Keeps (Some x) (Some y) None xs p q = absurd q
Consumes-Keeps (Some x) (Some y) (Some z) xs p q = p ∙ ap (λ l. xs ++ l) (sym q)

pub Consumes-Consumes_nil : (a b c : Option (List ℕ)) (xs : List ℕ) → Consumes a b xs → Consumes b c [] → Consumes a c xs
Consumes-Consumes_nil None b c xs p q = tt
Consumes-Consumes_nil (Some x) None c xs p q = absurd p
Consumes-Consumes_nil (Some x) (Some y) None xs p q = absurd q
Consumes-Consumes_nil (Some x) (Some y) (Some z) xs p q = p ∙ ap (λ l. xs ++ l) q
