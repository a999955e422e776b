-- CD-TEXT packs: made from a run of titles, and read back to it.
use Rattle.std.specs.Prelude.{◌≡◌, ℕ, zero, suc, ◌+◌, ◌-◌, ◌*◌, ◌/◌, ◌%◌, ◌≤◌, min, List, [], ◌∷◌, ◌++◌, Bool, true, false, ◌&&◌, length, take, drop, replicate, eqb, leb, Result, Option, MatchOption, slice_index, ◌≢◌, ◌<◌}
use Rattle.basics.specs.Bytes.{if, bytes16, all_zero, same_bytes}
use Rattle.mmc.specs.Refusals.{Outcome, pass, refuse, answer_of, buffer_of}
use Rattle.cdtext.specs.Check.{check_of}
use Rattle.cdtext.specs.Titles.{most_titles, allowed, title_count, all_titles, run_of}
use Rattle.cdtext.specs.Refusals.{outcome_of}
use Rattle.cdtext.specs.declared.packs.Place.{Place}
use Rattle.cdtext.specs.declared.refusals.Refusal.{Refusal}

-- ---- a pack

-- "the last pack filled with zeros"
abbrev pub padded : List ℕ → List ℕ
padded text = text ++ replicate (12 - length text) 0

-- "and two check bytes, high byte first"
abbrev pub sealed : List ℕ → List ℕ
sealed b = b ++ bytes16 (check_of b)

-- "A pack has 18 bytes: type .., track number, number running from 0, block and character position, 12 bytes of text, and two check
-- bytes"
unfoldable pub pack : ℕ → ℕ → ℕ → ℕ → List ℕ → List ℕ
pack type track number position text = sealed (type ∷ track ∷ number ∷ position ∷ padded text)

-- ---- text packs

-- behind a title's ending zero the next title begins; any other byte is one more character of the title
abbrev pub next_place : Place → ℕ → Place
next_place p x = if (eqb x 0) (record { track = p.track + 1; count = 0 }) (record { track = p.track; count = p.count + 1 })

-- where a text ends: the track of the title, ending zero included, that goes on behind it, and how many of its characters have come
unfoldable pub place_after : Place → List ℕ → Place
place_after p [] = p
place_after p (x ∷ xs) = place_after (next_place p x) xs

-- "titles of tracks 1 to n"
abbrev pub first_place : Place
first_place = record { track = 1; count = 0 }

abbrev pub place_at : List ℕ → ℕ → Place
place_at run k = place_after first_place (take (12 * k) run)

-- "at most 15"
abbrev pub most_position : ℕ
most_position = 15

-- "A pack bears the track of the title, ending zero included, in which its text begins; character position is how many of that
-- title's characters stand in earlier packs, at most 15."; type 80h, "one block, number 0"
abbrev pub text_at : Place → ℕ → List ℕ → List ℕ
text_at place k text = pack 0x80 place.track k (min place.count most_position) text

unfoldable pub text_pack : List ℕ → ℕ → List ℕ
text_pack run k = text_at (place_at run k) k (take 12 (drop (12 * k) run))

-- the first k of them
unfoldable pub text_packs : List ℕ → ℕ → List ℕ
text_packs run zero = []
text_packs run (suc k) = text_packs run k ++ text_pack run k

-- "titles packed without gaps": twelve bytes in each pack
abbrev pub packs_for : List ℕ → ℕ
packs_for run = (length run + 11) / 12

-- ---- size packs

-- document 000's record of 36 bytes, for n titles in p packs of type 80h
unfoldable pub size_record : ℕ → ℕ → List ℕ
size_record n p =
    (0x01 ∷ 1 ∷ n ∷ 0 ∷ [])  -- "Character code", "first track", "last track", "copyright byte"
    ++ (p ∷ replicate 14 0 ++ 3 ∷ [])  -- "Pack count of the various types 0x80 to 0x8f"
    ++ ((p + 2) ∷ replicate 7 0)  -- "Highest sequence byte number of blocks 0 to 7"
    ++ (0x09 ∷ replicate 7 0)  -- "Language code for blocks 0 to 7"

-- "The payload bytes of three packs form a 36 byte record."
unfoldable pub size_pack : List ℕ → ℕ → ℕ → List ℕ
size_pack sizes p i = pack 0x8F i (p + i) 0 (take 12 (drop (12 * i) sizes))

abbrev pub size_packs : List ℕ → ℕ → List ℕ
size_packs sizes p = size_pack sizes p 0 ++ size_pack sizes p 1 ++ size_pack sizes p 2

-- ---- all packs

unfoldable pub packs_of : List ℕ → List ℕ
packs_of run = text_packs run (packs_for run) ++ size_packs (size_record (title_count run) (packs_for run)) (packs_for run)

-- the 255 of "19 for more than 255 packs in all"
abbrev pub most_packs : ℕ
most_packs = 255

-- twelve bytes in each pack but the three size packs
abbrev pub longest_run : ℕ
longest_run = 12 * (most_packs - 3)

-- the packs of a run of titles: 17, then 19
unfoldable pub packs : List ℕ → Outcome (List ℕ)
packs run = if (allowed run) (if (leb (packs_for run + 3) most_packs) (pass (packs_of run)) (refuse 19)) (refuse 17)

-- ---- what a reader finds

-- the text of the first k packs
unfoldable pub text_in : ℕ → List ℕ → List ℕ
text_in zero b = []
text_in (suc k) b = text_in k b ++ take 12 (drop (18 * k + 4) b)

-- the index of a text's last byte that is not zero
abbrev pub IsLast : List ℕ → Option ℕ → Type 0
IsLast text r =
    MatchOption r ((k : ℕ) → k < length text → slice_index text k ≡ 0)
    (λ i. (i < length text) × (slice_index text i ≢ 0) × ((k : ℕ) → i < k → k < length text → slice_index text k ≡ 0))

-- a text without the zeros at its end
unfoldable pub trimmed : List ℕ → List ℕ
trimmed [] = []
trimmed (x ∷ xs) = if (all_zero (x ∷ xs)) [] (x ∷ trimmed xs)

-- the text of all packs but the three last, where one zero ends the last title and the others fill its pack
unfoldable pub run_in : List ℕ → List ℕ
run_in b = trimmed (text_in (length b / 18 - 3) b) ++ 0 ∷ []

-- 18 bytes for each of 4 to 255 packs
unfoldable pub packs_size : ℕ → Bool
packs_size n = leb 72 n && (leb n (18 * most_packs) && eqb (n % 18) 0)

abbrev pub are_bytes : Outcome (List ℕ) → List ℕ → Bool
are_bytes (pass p) b = same_bytes p b
are_bytes (refuse n) b = false

-- the titles that the text gives have packs, and they are these bytes
unfoldable pub is_packs : List ℕ → Bool
is_packs b = packs_size (length b) && are_bytes (packs (run_in b)) b

-- 18: "packs that no titles give"
unfoldable pub read_packs : List ℕ → Outcome (List ℕ)
read_packs b = if (is_packs b) (pass (run_in b)) (refuse 18)

-- ---- the contracts

-- what the inner makers need: allowed titles, packs that can be numbered, and room for them
pub record Fits (run : List ℕ) (room : ℕ) : Type 0 where
  pub few : title_count run ≤ most_titles
  pub short : length run ≤ longest_run
  pub some : 1 ≤ length run
  pub holds : 18 * (packs_for run + 3) ≤ room

-- what makers and readers promise of the lent buffer: of what has to go there, the answer, which counts things of so many bytes, and
-- the buffer before and after
pub record Fills (size : ℕ) (bytes : Outcome (List ℕ)) (r : Result ℕ Refusal) (before after : List ℕ) : Type 0 where
  pub answer : outcome_of size r ≡ answer_of bytes before
  pub buffer : after ≡ buffer_of bytes before

-- a run is that of 1 to 99 titles, all of them allowed
pub record IsRun (run : List ℕ) (titles : List (List ℕ)) : Type 0 where
  pub packed : run ≡ run_of titles
  pub good : all_titles titles ≡ true
  pub some : 1 ≤ length titles
  pub few : length titles ≤ 99

-- what the maker promises: 17, 19, 11 or the packs; that 17 is for just the runs that are none of allowed titles, n of them being
-- counted as n; that a pack whose text begins behind m characters of a title bears that title's track and m; that packs are at most
-- 255, bear the text without gaps and read back
pub record MakesPacks (run : List ℕ) (r : Result ℕ Refusal) (before after : List ℕ) : Type 0 where
  pub filled : Fills 18 (packs run) r before after
  pub titles : allowed run ≡ true → (ts : List (List ℕ)) × IsRun run ts
  pub allows : (ts : List (List ℕ)) → IsRun run ts → (allowed run ≡ true) × (title_count run ≡ length ts)
  pub placed : (earlier later : List (List ℕ)) (t : List ℕ) (k m : ℕ) → IsRun run (earlier ++ t ∷ later) → 12 * k ≡ length (run_of earlier) + m → m ≤ length t → place_at run k ≡ record { track = length earlier + 1; count = m }
  pub few : (b : List ℕ) → packs run ≡ pass b → (length b ≡ 18 * (packs_for run + 3)) × (packs_for run + 3 ≤ 255)
  pub no_gaps : (b : List ℕ) → packs run ≡ pass b → text_in (packs_for run) b ≡ run ++ replicate (12 * packs_for run - length run) 0
  pub reads_back : (b : List ℕ) → packs run ≡ pass b → read_packs b ≡ pass run

-- what the reader promises: 18, 11 or the run; that the bytes are the packs of the run read; and that a run whose packs they are is
-- read, so that 18 is for packs that no titles give
pub record ReadsPacks (b : List ℕ) (r : Result ℕ Refusal) (before after : List ℕ) : Type 0 where
  pub filled : Fills 1 (read_packs b) r before after
  pub made : (run : List ℕ) → read_packs b ≡ pass run → packs run ≡ pass b
  pub no_other : (run : List ℕ) → packs run ≡ pass b → read_packs b ≡ pass run
