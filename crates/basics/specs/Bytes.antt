-- Bytes as lists of numbers. Numbers stand high byte first.
use Rattle.std.specs.Prelude.{ℕ, ◌+◌, ◌*◌, ◌/◌, ◌%◌, List, [], ◌∷◌, ◌++◌, Bool, true, false, ◌&&◌, length, get_or, take, drop, eqb, leb}

-- a where the test holds, else b
abbrev pub if : {A : Type 0} → Bool → A → A → A
if true a b = a
if false a b = b

-- a number in two bytes, and in four
abbrev pub bytes16 : ℕ → List ℕ
bytes16 n = n / 256 ∷ n % 256 ∷ []

unfoldable pub bytes32 : ℕ → List ℕ
bytes32 n = n / 16777216 ∷ n / 65536 % 256 ∷ n / 256 % 256 ∷ n % 256 ∷ []

-- the number in the first two bytes, and in the first four
abbrev pub be16 : List ℕ → ℕ
be16 b = get_or b 0 0 * 256 + get_or b 1 0

unfoldable pub be32 : List ℕ → ℕ
be32 b = get_or b 0 0 * 16777216 + get_or b 1 0 * 65536 + get_or b 2 0 * 256 + get_or b 3 0

unfoldable pub sum_of : List ℕ → ℕ
sum_of [] = 0
sum_of (x ∷ xs) = x + sum_of xs

unfoldable pub all_zero : List ℕ → Bool
all_zero [] = true
all_zero (x ∷ xs) = eqb x 0 && all_zero xs

unfoldable pub same_bytes : List ℕ → List ℕ → Bool
same_bytes [] [] = true
same_bytes [] (y ∷ ys) = false
same_bytes (x ∷ xs) [] = false
same_bytes (x ∷ xs) (y ∷ ys) = eqb x y && same_bytes xs ys

-- d with s written over it from the index at on
unfoldable pub put_at : List ℕ → ℕ → List ℕ → List ℕ
put_at d at s = take at d ++ s ++ drop (at + length s) d

-- the n bytes from the index at on, or nothing where they run past the end
unfoldable pub part_of : List ℕ → ℕ → ℕ → List ℕ
part_of b at n = if (leb (at + n) (length b)) (take n (drop at b)) []
