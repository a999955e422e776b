-- A table of a function's values, proved at all of its entries by one test that antt computes, one entry after the other.
use mathlib.Core.Path.{◌≡◌, ◌∙◌, ap}
use mathlib.Core.Bool.{Bool, true, ◌&&◌}
use mathlib.Core.List.{List, [], ◌∷◌}
use Prim.Native.Nat.{ℕ, zero, suc, ◌+◌, ◌<◌}
use native.Mathlib.Omega.{arith}
use lib.Dec.{eqb}
use lib.ListN.{length, get_or}
use borrow.Author.Tests.{eqb-true}
use Rattle.std.proofs.lemmas.Bool.{and_parts}

-- the entries are f's values at i and on
abbrev pub holds : (ℕ → ℕ) → ℕ → List ℕ → Bool
holds f i [] = true
holds f i (x ∷ xs) = eqb x (f i) && holds f (suc i) xs

from : (f : ℕ → ℕ) (xs : List ℕ) (i : ℕ) → holds f i xs ≡ true → (k : ℕ) → k < length xs → get_or xs k 0 ≡ f (i + k)
from f [] i t k h = absurd (omega arith)
from f (x ∷ xs) i t zero h = eqb-true x (f i) (and_parts (eqb x (f i)) (holds f (suc i) xs) t).0 ∙ ap f (omega arith)
from f (x ∷ xs) i t (suc k) h =
    from f xs (suc i) (and_parts (eqb x (f i)) (holds f (suc i) xs) t).1 k (omega arith) ∙ ap f (omega arith)

pub at : (f : ℕ → ℕ) (xs : List ℕ) → holds f 0 xs ≡ true → (k : ℕ) → k < length xs → get_or xs k 0 ≡ f k
at f xs t k h = from f xs 0 t k h ∙ ap f (omega arith)
