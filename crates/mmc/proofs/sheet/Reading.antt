-- The arrays that are filled from the front, in the loops that read a sheet, and the length of a sheet.
use Rattle.std.proofs.Common.{◌≡◌, refl, ap, ◌∙◌, ℕ, zero, suc, ◌+◌, ◌*◌, ◌-◌, ◌%◌, ◌≤◌, ◌<◌, true, ◌&&◌, eqb, leb, arith}
use Rattle.std.proofs.Common.{List, [], ◌∷◌, ◌++◌, append_assoc, map, length, get_or, take, drop, replicate}
use lib.ListN.{set, length-map}
use lib.Seq.{drop-drop, length-take-le}
use borrow.Author.Tests.{eqb-true, leb-true}
use Rattle.std.proofs.Math.Seq.{set-append_seam}
use Rattle.std.proofs.lemmas.List.{take_more, map-append}
use Rattle.std.proofs.lemmas.Bool.{and_parts}
use Rattle.mmc.specs.Order.{most_tracks, no_track}
use Rattle.mmc.specs.Sheet.{sheet_bytes, length_in, lengths_in, no_length, track_for, sheet_in, sheet_size}
use Rattle.mmc.specs.declared.order.Kind.{Kind}
use Rattle.mmc.specs.declared.order.Track.{Track}
use Rattle.mmc.specs.declared.units.BlockCount.{BlockCount}

-- ---- an array of n whose first places hold a list, and the rest what stands for none: one more is set

filled : {X : Type 0} (none : X) (n i : ℕ) (xs a : List X) (v : X)
    → a ≡ xs ++ replicate (n - i) none → length xs ≡ i → i < n
    → set a i v ≡ (xs ++ (v ∷ [])) ++ replicate (n - (i + 1)) none
filled none n i xs a v e z h =
    let m : n - i ≡ suc (n - (i + 1)) = omega arith in
    rw (e, m, ← z, set-append_seam, append_assoc) refl

-- the first lengths, and one more
lengths_length : (n : ℕ) (b : List ℕ) → length (lengths_in n b) ≡ n
unfolding lengths_in
lengths_length zero b = refl
lengths_length (suc n) b = ap suc (lengths_length n (drop 8 b))

lengths_next : (i : ℕ) (b : List ℕ) → lengths_in (i + 1) b ≡ lengths_in i b ++ (length_in (drop (8 * i) b) ∷ [])
unfolding lengths_in
lengths_next zero b = refl
lengths_next (suc i) b =
    let f : suc i + 1 ≡ suc (i + 1) = omega arith in
    let e : 8 * suc i ≡ 8 + 8 * i = omega arith in
    rw (f, e, ← drop-drop (8 * i) 8 b) (ap (λ (l : List BlockCount). length_in b ∷ l) (lengths_next i (drop 8 b)))

pub no_lengths : (b : List ℕ) → replicate most_tracks no_length ≡ lengths_in 0 b ++ replicate most_tracks no_length
unfolding lengths_in
no_lengths b = refl

pub more_lengths : (b : List ℕ) (a : List BlockCount) (i : ℕ) (v : BlockCount)
    → a ≡ lengths_in i b ++ replicate (most_tracks - i) no_length → i < most_tracks → v ≡ length_in (drop (8 * i) b)
    → set a i v ≡ lengths_in (i + 1) b ++ replicate (most_tracks - (i + 1)) no_length
more_lengths b a i v e h ev =
    rw (lengths_next i b, ← ev) (filled no_length most_tracks i (lengths_in i b) a v e (lengths_length i b) h)

-- the tracks of the first lengths, and one more
pub more_tracks : (k : Kind) (xs : List BlockCount) (a : List Track) (i : ℕ)
    → a ≡ map (track_for k) (take i xs) ++ replicate (most_tracks - i) no_track → i < length xs → length xs ≤ most_tracks
    → set a i (track_for k (get_or xs i no_length))
    ≡ map (track_for k) (take (i + 1) xs) ++ replicate (most_tracks - (i + 1)) no_track
more_tracks k xs a i e h few =
    let x : BlockCount = get_or xs i no_length in
    let before : List Track = map (track_for k) (take i xs) in
    let n : length (map (track_for k) (take i xs)) ≡ i = length-map (take i xs) (track_for k) ∙ length-take-le i xs (omega arith) in
    rw
    (take_more xs i no_length h, map-append (track_for k) (take i xs) (x ∷ []))
    (filled no_track most_tracks i before a (track_for k x) e n (omega arith))

-- ---- the length of a sheet

pub shape : (b : List ℕ) → sheet_size (length b) ≡ true → (32 ≤ length b) × (length b ≤ 816) × (length b % 8 ≡ 0)
unfolding sheet_size
shape b h =
    let w = and_parts (leb 32 (length b)) (leb (length b) 816 && eqb (length b % 8) 0) h in
    let v = and_parts (leb (length b) 816) (eqb (length b % 8) 0) w.1 in
    (leb-true 32 (length b) w.0, leb-true (length b) 816 v.0, eqb-true (length b % 8) 0 v.1)

pub in_length : (b : List ℕ) → sheet_size (length b) ≡ true → length b ≡ sheet_bytes (sheet_in b).count
unfolding sheet_in
in_length b h = omega (arith, shape b h)

pub in_few : (b : List ℕ) → sheet_size (length b) ≡ true → (sheet_in b).count ≤ most_tracks
unfolding sheet_in
in_few b h = omega (arith, shape b h)
