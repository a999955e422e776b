-- Laws on bytes, and on the tests over them.
use mathlib.Core.Path.{◌≡◌, refl, sym, ap, ◌∙◌}
use mathlib.Core.List.{List, [], ◌∷◌, ◌++◌}
use mathlib.Core.Bool.{Bool, true, ◌&&◌}
use Prim.Native.Nat.{ℕ, suc, zero, ◌+◌, ◌*◌, ◌/◌, ◌%◌, ◌≤◌, ◌<◌}
use native.Mathlib.Omega.{arith}
use borrow.Author.Tests.{eq-eqb, eqb-true}
use lib.Dec.{eqb}
use borrow.Rule.Slice.PartMut.{put_mid}
use Rattle.std.proofs.Common.{append_assoc}
use Rattle.std.specs.List.{sum, list_all}
use Rattle.std.specs.Int.{to_be_bytes, w16, w32}
use Rattle.std.specs.Cmp.Lexicographic.{pointwise}
use Rattle.std.proofs.lemmas.List.Sums.{sum_by-cons}
use lib.ListN.{length, get_or, take, drop, replicate, length-append}
use lib.Seq.{drop-drop, take_at, drop_at, length-take-le}
use Rattle.basics.specs.Bytes.{sum_of, all_zero, same_bytes, put_at, be32, bytes16, bytes32}
use Rattle.std.proofs.lemmas.Bool.{and_parts, false≢true}

-- ---- what std's words say of bytes

-- the sum of all
pub total_is : (s : List ℕ) → sum s ≡ sum_of s
unfolding sum_of
total_is [] = refl
total_is (x ∷ s) = sum_by-cons (λ y. y) x s ∙ ap (λ (n : ℕ). x + n) (total_is s)

-- a test of all for 0
pub all_zero_is : (s : List ℕ) → list_all (λ x. eqb x 0) s ≡ all_zero s
unfolding all_zero
all_zero_is [] = refl
all_zero_is (x ∷ s) = ap (λ (b : Bool). eqb x 0 && b) (all_zero_is s)

-- `==` of slices
pub equal_is : (s t : List ℕ) → pointwise eqb s t ≡ same_bytes s t
unfolding same_bytes
equal_is [] [] = refl
equal_is [] (y ∷ t) = refl
equal_is (x ∷ s) [] = refl
equal_is (x ∷ s) (y ∷ t) = ap (λ (b : Bool). eqb x y && b) (equal_is s t)

-- a part that is written
pub part_is : (d s : List ℕ) (p n : ℕ) → n ≡ length s → put_mid p n d s ≡ put_at d p s
unfolding put_at
part_is d s p n e = rw (e, drop-drop (length s) p d, append_assoc) refl

pub sum_append : (s t : List ℕ) → sum_of (s ++ t) ≡ sum_of s + sum_of t
unfolding sum_of
sum_append [] t = omega arith
sum_append (x ∷ s) t = omega (arith, sum_append s t)

-- ---- tests over whole lists

pub same_is : (a b : List ℕ) → same_bytes a b ≡ true → a ≡ b
unfolding same_bytes
same_is [] [] e = refl
same_is [] (y ∷ b) e = absurd (false≢true e)
same_is (x ∷ a) [] e = absurd (false≢true e)
same_is (x ∷ a) (y ∷ b) e =
    let w = and_parts (eqb x y) (same_bytes a b) e in
    rw (eqb-true x y w.0, same_is a b w.1)

pub same_refl : (a : List ℕ) → same_bytes a a ≡ true
unfolding same_bytes
same_refl [] = refl
same_refl (x ∷ a) = rw (eq-eqb x x refl, same_refl a)

pub zeros_are : (x : List ℕ) → all_zero x ≡ true → x ≡ replicate (length x) 0
unfolding all_zero
zeros_are [] e = refl
zeros_are (a ∷ x) e =
    let s = and_parts (eqb a 0) (all_zero x) e in
    rw (eqb-true a 0 s.0, ← zeros_are x s.1)

pub zeros_zero : (n : ℕ) → all_zero (replicate n 0) ≡ true
unfolding all_zero
zeros_zero zero = refl
zeros_zero (suc n) = zeros_zero n

pub zeros_sum : (x : List ℕ) → all_zero x ≡ true → sum_of x ≡ 0
unfolding all_zero sum_of
zeros_sum [] e = refl
zeros_sum (a ∷ x) e = let s = and_parts (eqb a 0) (all_zero x) e in omega (arith, eqb-true a 0 s.0, zeros_sum x s.1)

-- ---- numbers in bytes

-- what `to_be_bytes` gives
pub be_bytes16 : (n : ℕ) → n < 65536 → to_be_bytes w16 n ≡ bytes16 n
be_bytes16 n h = let e : n / 256 % 256 ≡ n / 256 = omega arith in rw e

pub be_bytes32 : (n : ℕ) → n < 4294967296 → to_be_bytes w32 n ≡ bytes32 n
unfolding bytes32
be_bytes32 n h = let e : n / 16777216 % 256 ≡ n / 16777216 = omega arith in rw e

-- each element is a byte, as the elements of a `&[u8]` are
abbrev pub Bytes : List ℕ → Type 0
Bytes b = (i : ℕ) → get_or b i 0 < 256

pub be32_bytes32 : (n : ℕ) (t : List ℕ) → be32 (bytes32 n ++ t) ≡ n
unfolding be32 bytes32
be32_bytes32 n t = omega arith

pub bytes32_be32 : (a b c d : ℕ) → a < 256 → b < 256 → c < 256 → d < 256 → bytes32 (a * 16777216 + b * 65536 + c * 256 + d) ≡ a ∷ b ∷ c ∷ d ∷ []
unfolding bytes32
bytes32_be32 a b c d ha hb hc hd =
    let n : ℕ = a * 16777216 + b * 65536 + c * 256 + d in
    let e1 : n / 16777216 ≡ a = omega arith in
    let e2 : n / 65536 % 256 ≡ b = omega arith in
    let e3 : n / 256 % 256 ≡ c = omega arith in
    let e4 : n % 256 ≡ d = omega arith in
    rw (e1, e2, e3, e4)

-- ---- bytes that are put

-- s put where what is done ends
pub put_next : (done d s : List ℕ) (p : ℕ) → length done ≡ p → put_at (done ++ drop p d) p s ≡ done ++ s ++ drop (p + length s) d
unfolding put_at
put_next done d s p e =
    rw (take_at done (drop p d) p e, ← drop-drop (length s) p (done ++ drop p d), drop_at done (drop p d) p e, drop-drop (length s) p d)

-- the part before p + length s, and the part behind it
pub put_take : (d s : List ℕ) (p q : ℕ) → p + length s ≤ length d → q ≡ p + length s → take q (put_at d p s) ≡ take p d ++ s
unfolding put_at
put_take d s p q h e =
    let n : length (take p d ++ s) ≡ q = omega (arith, length-append (take p d) s, length-take-le p d (omega arith)) in
    take_at (take p d ++ s) (drop (p + length s) d) q n

pub put_drop : (d s : List ℕ) (p q : ℕ) → p + length s ≤ length d → q ≡ p + length s → drop q (put_at d p s) ≡ drop q d
unfolding put_at
put_drop d s p q h e =
    let n : length (take p d ++ s) ≡ q = omega (arith, length-append (take p d) s, length-take-le p d (omega arith)) in
    drop_at (take p d ++ s) (drop (p + length s) d) q n ∙ ap (λ (j : ℕ). drop j d) (sym e)
