-- Worked examples: encodings are the bytes that users expect.
use Rattle.std.proofs.Common.{◌≡◌, ◌^◌, [], ◌∷◌, true, false, refl, pos, negsuc}
use Rattle.std.specs.Prelude.{codes}
use Rattle.std.specs.Int.{w16, w32, w64, w128, to_le_bytes}
use Rattle.std.specs.List.{flat_map}
use Rattle.ix_string.specs.Text.{padded_text, before_nul}
use Rattle.ix_atomic.specs.Encoding.{bool_encoding, signed_encoding, i64_encoding, joint_size, array_size}

to_le_bytes-u16 : to_le_bytes w16 258 ≡ 2 ∷ 1 ∷ []
to_le_bytes-u16 = refl

to_le_bytes-u32 : to_le_bytes w32 0x1234_5678 ≡ 0x78 ∷ 0x56 ∷ 0x34 ∷ 0x12 ∷ []
to_le_bytes-u32 = refl

to_le_bytes-u64 : to_le_bytes w64 6 ≡ 6 ∷ 0 ∷ 0 ∷ 0 ∷ 0 ∷ 0 ∷ 0 ∷ 0 ∷ []
to_le_bytes-u64 = refl

to_le_bytes-u64_max : to_le_bytes w64 18446744073709551615 ≡ 255 ∷ 255 ∷ 255 ∷ 255 ∷ 255 ∷ 255 ∷ 255 ∷ 255 ∷ []
to_le_bytes-u64_max = refl

i64_encoding-positive : i64_encoding (pos 5) ≡ 5 ∷ 0 ∷ 0 ∷ 0 ∷ 0 ∷ 0 ∷ 0 ∷ 0 ∷ []
i64_encoding-positive = refl

-- negsuc 0 is -1, and negsuc 255 is -256
i64_encoding-minus_one : i64_encoding (negsuc 0) ≡ 255 ∷ 255 ∷ 255 ∷ 255 ∷ 255 ∷ 255 ∷ 255 ∷ 255 ∷ []
i64_encoding-minus_one = refl

i64_encoding-minus_256 : i64_encoding (negsuc 255) ≡ 0 ∷ 255 ∷ 255 ∷ 255 ∷ 255 ∷ 255 ∷ 255 ∷ 255 ∷ []
i64_encoding-minus_256 = refl

signed_encoding-i16_minus_two : signed_encoding w16 (negsuc 1) ≡ 254 ∷ 255 ∷ []
signed_encoding-i16_minus_two = refl

signed_encoding-i32_least : signed_encoding w32 (negsuc 2147483647) ≡ 0 ∷ 0 ∷ 0 ∷ 128 ∷ []
signed_encoding-i32_least = refl

to_le_bytes-u128 : to_le_bytes w128 (2 ^ 64) ≡ 0 ∷ 0 ∷ 0 ∷ 0 ∷ 0 ∷ 0 ∷ 0 ∷ 0 ∷ 1 ∷ 0 ∷ 0 ∷ 0 ∷ 0 ∷ 0 ∷ 0 ∷ 0 ∷ []
to_le_bytes-u128 = refl

-- three numbers of two bytes, and sizes: of a pair of one byte and of eight, of three numbers, and of more than can be counted
flat_map-u16 : flat_map (to_le_bytes w16) (1 ∷ 256 ∷ 65535 ∷ []) ≡ 1 ∷ 0 ∷ 0 ∷ 1 ∷ 255 ∷ 255 ∷ []
flat_map-u16 = refl

joint_size-nine : joint_size 1 8 ≡ 9
joint_size-nine = refl

array_size-six : array_size 3 2 ≡ 6
array_size-six = refl

joint_size-uncounted : joint_size (2 ^ 63) (2 ^ 63) ≡ 18446744073709551615
joint_size-uncounted = refl

bool_encoding-false : bool_encoding false ≡ 0 ∷ []
bool_encoding-false = refl

bool_encoding-true : bool_encoding true ≡ 1 ∷ []
bool_encoding-true = refl

-- a string of capacity 3 that is not full, that is full, and that is empty; and one of capacity 0
padded_text-ab : padded_text 3 (codes "ab") ≡ 97 ∷ 98 ∷ 0 ∷ []
padded_text-ab = refl

padded_text-abc : padded_text 3 (codes "abc") ≡ codes "abc"
padded_text-abc = refl

padded_text-empty : padded_text 3 [] ≡ 0 ∷ 0 ∷ 0 ∷ []
padded_text-empty = refl

padded_text-no_room : padded_text 0 [] ≡ []
padded_text-no_room = refl

-- the text of bytes ends before the first zero, whatever comes after it
before_nul-ab : before_nul (97 ∷ 98 ∷ 0 ∷ []) ≡ codes "ab"
before_nul-ab = refl

before_nul-behind : before_nul (97 ∷ 0 ∷ 98 ∷ []) ≡ codes "a"
before_nul-behind = refl
