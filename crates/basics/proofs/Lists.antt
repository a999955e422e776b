-- Laws on lists, and on arrays of structs.
use mathlib.Core.Path.{◌≡◌, refl, sym, ap, ◌∙◌}
use mathlib.Core.List.{List, ◌∷◌, map}
use Prim.Native.Nat.{ℕ, suc, zero, ◌+◌, ◌-◌, ◌≤◌, ◌<◌}
use native.Mathlib.Numerals.{add-one}
use native.Mathlib.Omega.{arith}
use lib.ListN.{length, length-map, get_or, take, drop, replicate, length-drop, length-replicate}
use lib.Seq.{drop-cons, take_all}

-- ---- one more element

-- what is left from i on is the element at i and what is left from i + 1 on
pub drop_next : (s : List ℕ) (i : ℕ) → i < length s → drop i s ≡ get_or s i 0 ∷ drop (i + 1) s
drop_next s i h = rw (add-one, drop-cons s i 0)

-- a part that runs to the end
pub rest : (s : List ℕ) (k : ℕ) → take (length s - k) (drop k s) ≡ drop k s
rest s k = take_all (length s - k) (drop k s) (omega (arith, length-drop k s))

-- an array of structs: what owning it tells is of its elements' machine values
pub mapped_length : (X Y : Type 0) (f : X → Y) (l : List X) (n : ℕ) → length (map f l) ≡ n → length l ≡ n
mapped_length X Y f l n e = sym (length-map l f) ∙ e

-- ---- zeros

-- n zeros
abbrev pub zeros : ℕ → List ℕ
zeros n = replicate n 0

pub drop_zeros : (k n : ℕ) → k ≤ n → drop k (zeros n) ≡ zeros (n - k)
drop_zeros zero n h = let e : n - 0 ≡ n = omega arith in rw e
drop_zeros (suc k) zero h = absurd (omega arith)
drop_zeros (suc k) (suc n) h = let e : suc n - suc k ≡ n - k = omega arith in rw e (drop_zeros k n (omega arith))

pub take_zeros : (k n : ℕ) → k ≤ n → take k (zeros n) ≡ zeros k
take_zeros zero n h = refl
take_zeros (suc k) zero h = absurd (omega arith)
take_zeros (suc k) (suc n) h = ap (λ (l : List ℕ). 0 ∷ l) (take_zeros k n (omega arith))

pub zeros_length : (n : ℕ) → length (zeros n) ≡ n
zeros_length n = length-replicate n (zero)
