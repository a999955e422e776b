-- Titles as one run of bytes, "each with its ending zero", and which runs are allowed.
use Rattle.std.specs.Prelude.{ℕ, ◌+◌, List, [], ◌∷◌, ◌++◌, Bool, true, ◌&&◌, length, eqb, leb}
use Rattle.basics.specs.Bytes.{if}

-- "plain ASCII from 20h to 7Eh"
abbrev pub last_character : ℕ
last_character = 0x7E

abbrev pub is_character : ℕ → Bool
is_character x = leb 0x20 x && leb x last_character

-- "each title 1 to 160 characters"
abbrev pub longest_title : ℕ
longest_title = 160

abbrev pub title_length : ℕ → Bool
title_length n = leb 1 n && leb n longest_title

-- "and ended by a zero byte": a run of titles, of whose first c characters stand before it
unfoldable pub titles_from : ℕ → List ℕ → Bool
titles_from c [] = eqb c 0
titles_from c (x ∷ xs) = if (eqb x 0) (title_length c && titles_from 0 xs) (is_character x && titles_from (c + 1) xs)

-- how many titles a run has: one for each ending zero
unfoldable pub title_count : List ℕ → ℕ
title_count [] = 0
title_count (x ∷ xs) = if (eqb x 0) 1 0 + title_count xs

-- the 99 of "a count of titles outside 1 to 99"
abbrev pub most_titles : ℕ
most_titles = 99

-- 17: "a title not allowed or without its zero, or a count of titles outside 1 to 99"
unfoldable pub allowed : List ℕ → Bool
allowed run = titles_from 0 run && (leb 1 (title_count run) && leb (title_count run) most_titles)

-- ---- the same as a list of titles

unfoldable pub all_characters : List ℕ → Bool
all_characters [] = true
all_characters (x ∷ xs) = is_character x && all_characters xs

unfoldable pub all_titles : List (List ℕ) → Bool
all_titles [] = true
all_titles (t ∷ ts) = (title_length (length t) && all_characters t) && all_titles ts

-- "titles packed without gaps", each with its ending zero
unfoldable pub run_of : List (List ℕ) → List ℕ
run_of [] = []
run_of (t ∷ ts) = t ++ 0 ∷ run_of ts
