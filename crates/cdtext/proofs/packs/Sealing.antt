-- A pack as it is built: four bytes, the text over zeros, and the check bytes behind them.
use mathlib.Core.Path.{◌≡◌, refl, ap, ap₂, ◌∙◌}
use mathlib.Core.List.{List, [], ◌∷◌, ◌++◌, append_assoc, append-nil}
use Prim.Native.Nat.{ℕ, zero, suc, ◌-◌, ◌≤◌, ◌<◌}
use native.Mathlib.Omega.{arith}
use lib.ListN.{length, take, drop, length-append, length-replicate}
use lib.Seq.{take_at, drop_at}
use borrow.Rule.Slice.PartMut.{put_mid}
use Rattle.std.specs.Int.{to_be_bytes, w16}
use Rattle.basics.specs.Bytes.{bytes16}
use Rattle.basics.proofs.Bytes.{be_bytes16}
use Rattle.basics.proofs.Lists.{zeros, drop_zeros}
use Rattle.cdtext.specs.Check.{check_of}
use Rattle.cdtext.specs.Packs.{padded, pack}

pub padded_length : (text : List ℕ) → length text ≤ 12 → length (padded text) ≡ 12
padded_length text h = omega (arith, length-append text (zeros (12 - length text)), length-replicate (12 - length text) (zero))

two_more : (n : ℕ) → zeros (suc (suc n)) ≡ zeros n ++ 0 ∷ 0 ∷ []
two_more zero = refl
two_more (suc n) = ap (λ (l : List ℕ). 0 ∷ l) (two_more n)

-- the text over fourteen zeros, behind four bytes
abbrev pub unsealed : List ℕ → ℕ → List ℕ → List ℕ
unsealed h j ys = put_mid 4 j (h ++ zeros 14) ys

unsealed_is : (a b c d : ℕ) (text h ys : List ℕ) (j : ℕ) → length text ≤ 12 → h ≡ a ∷ b ∷ c ∷ d ∷ [] → j ≡ length text → ys ≡ text → unsealed h j ys ≡ (a ∷ b ∷ c ∷ d ∷ padded text) ++ 0 ∷ 0 ∷ []
unsealed_is a b c d text h ys j l eh ej ey =
    let n : 14 - length text ≡ suc (suc (12 - length text)) = omega arith in
    rw (eh, ej, ey, drop_zeros (length text) 14 (omega arith), n, two_more (12 - length text), append_assoc text (zeros (12 - length text)) (0 ∷ 0 ∷ []))

pub pack_is : (a b c d : ℕ) (text h ys ks : List ℕ) (j k : ℕ) → length text ≤ 12 → h ≡ a ∷ b ∷ c ∷ d ∷ [] → j ≡ length text → ys ≡ text → k ≡ check_of (take 16 (unsealed h j ys)) → k < 65536 → ks ≡ to_be_bytes w16 k
    → put_mid 16 2 (unsealed h j ys) ks ≡ pack a b c d text
unfolding pack
pack_is a b c d text h ys ks j k l eh ej ey ek lk es =
    let s = a ∷ b ∷ c ∷ d ∷ padded text in
    let n : length s ≡ 16 = omega (arith, padded_length text l) in
    let u = unsealed_is a b c d text h ys j l eh ej ey in
    let t : take 16 (unsealed h j ys) ≡ s = ap (take 16) u ∙ take_at s (0 ∷ 0 ∷ []) 16 n in
    let r : drop 2 (drop 16 (unsealed h j ys)) ≡ [] = ap (λ (z : List ℕ). drop 2 (drop 16 z)) u ∙ ap (drop 2) (drop_at s (0 ∷ 0 ∷ []) 16 n) in
    let q : ks ≡ bytes16 (check_of s) = es ∙ be_bytes16 k lk ∙ ap bytes16 (ek ∙ ap check_of t) in
    ap₂ (λ (y z : List ℕ). y ++ (ks ++ z)) t r ∙ ap (λ (z : List ℕ). s ++ z) (append-nil ks ∙ q)
