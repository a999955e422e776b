-- Sheets read back to what was made, and a reader takes no others.
use mathlib.Core.Path.{◌≡◌, refl, sym, ap, subst, ◌∙◌}
use mathlib.Core.List.{List, [], ◌∷◌, ◌++◌, map, map-append}
use mathlib.Core.Bool.{Bool, true, false, not, ◌&&◌}
use Prim.Native.Nat.{ℕ, zero, suc, ◌+◌, ◌*◌, ◌-◌, ◌/◌, ◌%◌, ◌≤◌, ◌<◌}
use native.Mathlib.Omega.{arith}
use borrow.Author.Tests.{eq-eqb, eqb-true, leb-true, le-leb}
use lib.Dec.{eqb, leb}
use lib.ListN.{length, get_or, take, drop, replicate, take-append-drop, length-drop, length-map}
use lib.Seq.{length-take-le, take_at}
use Rattle.basics.specs.Bytes.{same_bytes}
use Rattle.std.proofs.lemmas.Bool.{and_parts, false≢true}
use Rattle.basics.proofs.Tests.{known}
use Rattle.basics.proofs.Bytes.{same_is, same_refl}
use Rattle.mmc.specs.Order.{no_track, is_none, is_audio, is_new, all_none, new_sao, valid_order, same_kind, tracks_in, order_kind, mixed_or_kept, overlong, all_kind, all_long, blocks_of, least_blocks}
use Rattle.mmc.specs.Times.{first_address, last_address, lead_in_minute, is_time, frames_to, address_at, time_frames, address_at_time, address_of}
use Rattle.mmc.specs.Sheet.{sheet_fault, control_of, cue_entry, lead_in_entry, pause_entry, start_entry, lead_out_entry, track_entries, all_entries, sheet_of, sheet_bytes, frames_in, kind_in, length_in, lengths_in, no_length, tracks_beside, sheet_in, sheet_size, track_for, order_for, is_sheet, read_sheet, cue_sheet, length_of, sheet_for, times_in, Below, Rising, Ordered, entry_time, minute_in, addresses_in, starts_from, MakesSheet}
use Rattle.mmc.proofs.refusals.Laws.{without_fault}
use Rattle.mmc.proofs.sheet.Reading.{in_few}
use Rattle.mmc.proofs.sheet.Entries.{address, number, has_time_lem, entries_length, Sheeted, sheeted}
use Rattle.mmc.proofs.times.Signed.{range_time}
use Rattle.mmc.proofs.times.Laws.{stands}
use Rattle.std.specs.Prelude.{Result}
use Rattle.mmc.specs.Refusals.{Outcome, pass, refuse, Fills}
use Rattle.mmc.specs.declared.refusals.Refusal.{Refusal}
use Rattle.mmc.specs.declared.units.BlockAddress.{BlockAddress}
use Rattle.mmc.specs.declared.units.BlockCount.{BlockCount}
use Rattle.mmc.specs.declared.order.Order.{Order}
use Rattle.mmc.specs.declared.order.Track.{Track}
use Rattle.mmc.specs.declared.order.Kind.{Kind}
use Rattle.mmc.specs.declared.order.Kind.TheVariants.{Audio, Data}
use Rattle.mmc.specs.declared.order.Method.TheVariants.{Sao}
use Rattle.mmc.specs.declared.order.Recipe.TheVariants.{Old}
use Rattle.mmc.specs.declared.sheet.Sheet.{Sheet}

-- ---- what is made reads back

clock_back : (f : ℕ) → (f / 75 / 60 * 60 + f / 75 % 60) * 75 + f % 75 ≡ f
clock_back f = omega arith

-- the first entry's time, where the first track starts at an address
starts : (k : Kind) (n at : ℕ) (ts : List Track) → (frames_in (track_entries k (number n) (address at) ts)).0 ≡ at + 150
unfolding frames_in track_entries cue_entry start_entry lead_out_entry frames_to time_frames
starts k n at [] = clock_back (at + 150)
starts k n at (t ∷ ts) = clock_back (at + 150)

rest : (k : Kind) (n at : ℕ) (t : Track) (ts : List Track) → drop 8 (track_entries k (number n) (address at) (t ∷ ts)) ≡ track_entries k (number (n + 1)) (address (at + t.length.0)) ts
unfolding track_entries cue_entry start_entry
rest k n at t ts = refl

one_back : (k : Kind) (n at : ℕ) (t : Track) (ts : List Track) → length_in (track_entries k (number n) (address at) (t ∷ ts)) ≡ length_of t
unfolding length_in
one_back k n at t ts =
    let l : ℕ = t.length.0 in
    let a : (frames_in (track_entries k (number n) (address at) (t ∷ ts))).0 ≡ at + 150 = starts k n at (t ∷ ts) in
    let b : (frames_in (drop 8 (track_entries k (number n) (address at) (t ∷ ts)))).0 ≡ at + l + 150 = rw (rest k n at t ts) (starts k (n + 1) (at + l) ts) in
    let d : at + l + 150 - (at + 150) ≡ l = omega arith in
    ap (λ (m : ℕ). record { 0 = m }) (rw (a, b) d)

lengths_back : (k : Kind) (n at : ℕ) (ts : List Track) → lengths_in (length ts) (track_entries k (number n) (address at) ts) ≡ map length_of ts
unfolding lengths_in
lengths_back k n at [] = refl
lengths_back k n at (t ∷ ts) = rw (one_back k n at t ts, rest k n at t ts, lengths_back k (n + 1) (at + t.length.0) ts)

none_is : (t : Track) → is_none t ≡ true → t ≡ no_track
none_is t e =
    let w = and_parts (is_audio t.kind) (eqb t.length.0 0) e in
    rw (audio t.kind w.0, eqb-true t.length.0 0 w.1)
  where
    audio : (k : Kind) → is_audio k ≡ true → k ≡ Audio
    audio Audio e = refl
    audio Data e = absurd (false≢true e)

nones_are : (ts : List Track) → all_none ts ≡ true → ts ≡ replicate (length ts) no_track
unfolding all_none
nones_are [] e = refl
nones_are (t ∷ ts) e =
    let w = and_parts (is_none t) (all_none ts) e in
    rw (none_is t w.0, ← nones_are ts w.1)

no_lengths : (n : ℕ) → map length_of (replicate n no_track) ≡ replicate n no_length
no_lengths zero = refl
no_lengths (suc n) = ap (λ (l : List BlockCount). no_length ∷ l) (no_lengths n)

kind_same : (a b : Kind) → same_kind a b ≡ true → a ≡ b
kind_same Audio Audio e = refl
kind_same Audio Data e = absurd (false≢true e)
kind_same Data Audio e = absurd (false≢true e)
kind_same Data Data e = refl

-- tracks of one kind are those of their lengths
tracks_of_lem : (k : Kind) (ts : List Track) → all_kind k ts ≡ true → map (track_for k) (map length_of ts) ≡ ts
unfolding all_kind
tracks_of_lem k [] e = refl
tracks_of_lem k (t ∷ ts) e =
    let w = and_parts (same_kind k t.kind) (all_kind k ts) e in
    rw (tracks_of_lem k ts w.1, kind_same k t.kind w.0)

kind_back : (k : Kind) → kind_in (control_of k) ≡ k
kind_back Audio = refl
kind_back Data = refl

-- the order without its flags: all that a sheet holds of it
abbrev pub plain : Order → Order
plain o = record { method = Sao; keep = false; protect = false; immed = false; erase = false; recipe = Old; count = o.count; tracks = o.tracks }

module _ (o : Order) (z : length o.tracks ≡ 99) (f : sheet_fault o ≡ 0) where
  s : Sheeted o
  s = sheeted o f

  few : (1 ≤ o.count) × (o.count ≤ 99) × (all_none (drop o.count o.tracks) ≡ true) × (not (new_sao o) ≡ true)
  unfolding valid_order
  few =
      let w = and_parts (leb _ o.count) (leb o.count _ && (all_none (drop o.count o.tracks) && not (new_sao o))) s.valid in
      let v = and_parts (leb o.count _) (all_none (drop o.count o.tracks) && not (new_sao o)) w.1 in
      let u = and_parts (all_none (drop o.count o.tracks)) (not (new_sao o)) v.1 in
      (omega (arith, leb-true _ o.count w.0), omega (arith, leb-true o.count _ v.0), u.0, u.1)

  tracks_are : length (tracks_in o) ≡ o.count
  tracks_are = length-take-le o.count o.tracks (omega (arith, few))

  pub sheet_length : length (sheet_of o) ≡ sheet_bytes o.count
  unfolding sheet_of cue_entry lead_in_entry pause_entry
  sheet_length = omega (arith, entries_length (order_kind o) (number 1) (address 0) (tracks_in o), tracks_are)

  count_back : tracks_beside (sheet_of o) ≡ o.count
  count_back = omega (arith, sheet_length)

  shaped_back : sheet_size (length (sheet_of o)) ≡ true
  unfolding sheet_size
  shaped_back =
      let n = sheet_length in
      let w = few in
      simp (le-leb 32 (length (sheet_of o)) (omega arith), le-leb (length (sheet_of o)) 816 (omega arith), eq-eqb (length (sheet_of o) % 8) 0 (omega arith))

  first : get_or (sheet_of o) 0 0 ≡ control_of (order_kind o)
  unfolding sheet_of cue_entry lead_in_entry
  first = refl

  behind_pause : drop 16 (sheet_of o) ≡ all_entries o
  unfolding sheet_of cue_entry lead_in_entry pause_entry
  behind_pause = refl

  -- no track stands behind the last
  nones : drop o.count o.tracks ≡ replicate (99 - o.count) no_track
  nones =
      let n : length (drop o.count o.tracks) ≡ 99 - o.count = length-drop o.count o.tracks ∙ ap (λ (j : ℕ). j - o.count) z in
      nones_are (drop o.count o.tracks) few.2 ∙ ap (λ (j : ℕ). replicate j no_track) n

  -- the lengths of all 99 places
  all_lengths : map length_of o.tracks ≡ map length_of (tracks_in o) ++ replicate (99 - o.count) no_length
  all_lengths =
      ap (map length_of) (sym (take-append-drop o.count o.tracks))
      ∙ map-append length_of (tracks_in o) (drop o.count o.tracks)
      ∙ ap (λ (l : List BlockCount). map length_of (tracks_in o) ++ l) (ap (map length_of) nones ∙ no_lengths (99 - o.count))

  lengths_are : lengths_in (tracks_beside (sheet_of o)) (drop 16 (sheet_of o)) ≡ map length_of (tracks_in o)
  lengths_are =
      let r : drop 16 (sheet_of o) ≡ all_entries o = behind_pause in
      rw (count_back, r) (ap (λ (n : ℕ). lengths_in n (all_entries o)) (sym tracks_are) ∙ lengths_back (order_kind o) 1 0 (tracks_in o))

  kind_and_lengths : sheet_in (sheet_of o) ≡ sheet_for o
  unfolding sheet_in sheet_for
  kind_and_lengths =
      let c : get_or (sheet_of o) 0 0 ≡ control_of (order_kind o) = first in
      rw (lengths_are, count_back, c, kind_back (order_kind o), all_lengths)

  order_back : order_for (sheet_for o) ≡ plain o
  unfolding order_for sheet_for
  order_back =
      let n : length (map length_of (tracks_in o)) ≡ o.count = length-map (tracks_in o) length_of ∙ tracks_are in
      let t : take o.count (map length_of o.tracks) ≡ map length_of (tracks_in o) = ap (take o.count) all_lengths ∙ take_at (map length_of (tracks_in o)) _ o.count n in
      let e : map (track_for (order_kind o)) (take o.count (map length_of o.tracks)) ++ replicate (99 - o.count) no_track ≡ o.tracks =
      rw (t, tracks_of_lem (order_kind o) (tracks_in o) s.kinds, ← nones) (take-append-drop o.count o.tracks) in
      ap (λ (l : List Track). record { method = Sao; keep = false; protect = false; immed = false; erase = false; recipe = Old; count = o.count; tracks = l }) e

  -- SAO goes with the old recipe
  old : is_new o.recipe ≡ false
  old = flip (is_new o.recipe) (ap (λ (b : Bool). not (b && is_new o.recipe)) (sym s.sao) ∙ few.3)
    where
      flip : (b : Bool) → not b ≡ true → b ≡ false
      flip true e = sym e
      flip false e = refl

  plain_fault : sheet_fault (plain o) ≡ 0
  unfolding valid_order sheet_fault mixed_or_kept overlong
  plain_fault = simp (s.sao, s.closed, old) at f

  plain_sheet : sheet_of (plain o) ≡ sheet_of o
  unfolding sheet_of
  plain_sheet = refl

  -- what is made of an order is read back to its kind and its lengths
  pub sheet_back : read_sheet (sheet_of o) ≡ pass (sheet_for o)
  unfolding read_sheet is_sheet
  sheet_back = simp (shaped_back, kind_and_lengths, order_back, plain_fault, plain_sheet, same_refl (sheet_of o))

-- ---- a reader takes no others

-- every sheet that is read is the one that is made of what is read
pub made : (b : List ℕ) (s : Sheet) → read_sheet b ≡ pass s → cue_sheet (order_for s) ≡ pass b
unfolding read_sheet is_sheet cue_sheet
made b s e = known (is_sheet b) yes' no'
  where
    yes' : is_sheet b ≡ true → cue_sheet (order_for s) ≡ pass b
    yes' t =
        let o : Order = order_for (sheet_in b) in
        let w = and_parts (sheet_size (length b)) (eqb (sheet_fault o) 0 && same_bytes (sheet_of o) b) t in
        let v = and_parts (eqb (sheet_fault o) 0) (same_bytes (sheet_of o) b) w.1 in
        let x : pass (sheet_in b) ≡ pass s = simp t at e in
        let y : s ≡ sheet_in b = cc in
        rw (y, v.0, same_is (sheet_of o) b v.1)

    no' : is_sheet b ≡ false → cue_sheet (order_for s) ≡ pass b
    no' t = let x : refuse 14 ≡ pass s = simp t at e in absurd (let y : ◌≡◌ {A = ℕ} 0 1 = cc in omega arith)

-- an order that has a sheet has no fault, and that is its sheet
made_of : (o : Order) (b : List ℕ) → cue_sheet o ≡ pass b → (sheet_fault o ≡ 0) × (sheet_of o ≡ b)
unfolding cue_sheet
made_of o b e = without_fault (sheet_fault o) (sheet_of o) b e

-- every sheet that is made has its length, and reads back
module _ (o : Order) (z : length o.tracks ≡ 99) (b : List ℕ) (e : cue_sheet o ≡ pass b) where
  pub made_length : length b ≡ sheet_bytes o.count
  made_length = let w = made_of o b e in rw (← w.1) (sheet_length o z w.0)

  pub reads_back : read_sheet b ≡ pass (sheet_for o)
  reads_back = let w = made_of o b e in rw (← w.1) (sheet_back o z w.0)

-- ---- the times of the entries

times_from : ℕ → List Track → List ℕ
times_from at [] = (at + 150) ∷ []
times_from at (t ∷ ts) = (at + 150) ∷ times_from (at + t.length.0) ts

times_are : (k : Kind) (n at : ℕ) (ts : List Track) → times_in (length ts + 1) (track_entries k (number n) (address at) ts) ≡ times_from at ts
unfolding times_in times_from
times_are k n at [] = ap (λ (x : ℕ). x ∷ []) (starts k n at [])
times_are k n at (t ∷ ts) =
    let e : length (t ∷ ts) + 1 ≡ suc (length ts + 1) = omega arith in
    rw (e, starts k n at (t ∷ ts), rest k n at t ts, times_are k (n + 1) (at + t.length.0) ts)

below_from : (x at : ℕ) (ts : List Track) → x < at + 150 → Below x (times_from at ts)
unfolding times_from
below_from x at [] h = h
below_from x at (t ∷ ts) h = h

rising_from : (at : ℕ) (ts : List Track) → all_long ts ≡ true → Rising (times_from at ts)
unfolding times_from Rising all_long
rising_from at [] l = (tt, tt)
rising_from at (t ∷ ts) l =
    let w = and_parts (leb least_blocks t.length.0) (all_long ts) l in
    let a : ℕ = at + t.length.0 in
    (below_from (at + 150) a ts (omega (arith, leb-true least_blocks t.length.0 w.0)), rising_from a ts w.1)

shares : (o : Order) → frames_in (sheet_of o) ≡ frames_in (drop 8 (sheet_of o))
unfolding sheet_of frames_in cue_entry lead_in_entry pause_entry
shares o = refl

-- index 1 and lead-out addresses strictly increase; lead-in and pause share one
pub in_order : (o : Order) → length o.tracks ≡ 99 → (b : List ℕ) → cue_sheet o ≡ pass b → Ordered o.count b
in_order o z b e =
    let w = made_of o b e in
    let s : Sheeted o = sheeted o w.0 in
    let n : length (tracks_in o) ≡ o.count = tracks_are o z w.0 in
    let r : Rising (times_in (length (tracks_in o) + 1) (all_entries o)) =
    rw (times_are (order_kind o) 1 0 (tracks_in o)) (rising_from 0 (tracks_in o) s.long) in
    let at : Rising (times_in (o.count + 1) (drop 16 (sheet_of o))) =
    subst (λ (x : List ℕ). Rising (times_in (o.count + 1) x)) (sym (behind_pause o z w.0))
    (subst (λ (m : ℕ). Rising (times_in (m + 1) (all_entries o))) n r) in
    subst (Ordered o.count) w.1 (record { shared = shares o; rising = at })

-- ---- what the times stand for

-- the first entry's time, where the first track starts at an address
stands_at : (k : Kind) (n at : ℕ) (ts : List Track) → at ≤ last_address → address_of (entry_time (track_entries k (number n) (address at) ts)) ≡ pass (address at)
unfolding track_entries cue_entry start_entry lead_out_entry
stands_at k n at [] h = stands (address at) (range_time (address at) (has_time_lem at h))
stands_at k n at (t ∷ ts) h = stands (address at) (range_time (address at) (has_time_lem at h))

stand_from : (k : Kind) (n at : ℕ) (ts : List Track) → at + blocks_of ts ≤ last_address → addresses_in (length ts + 1) (track_entries k (number n) (address at) ts) ≡ starts_from (address at) ts
unfolding addresses_in starts_from blocks_of
stand_from k n at [] h = ap (λ (x : Outcome BlockAddress). x ∷ []) (stands_at k n at [] (omega arith))
stand_from k n at (t ∷ ts) h =
    let e : length (t ∷ ts) + 1 ≡ suc (length ts + 1) = omega arith in
    rw (e, stands_at k n at (t ∷ ts) (omega arith), rest k n at t ts, stand_from k (n + 1) (at + t.length.0) ts (omega arith))

-- pause, tracks and lead-out stand where they were ordered
pub addresses :
    (o : Order) → length o.tracks ≡ 99 → (b : List ℕ) → cue_sheet o ≡ pass b →
    addresses_in (o.count + 3) b ≡ pass (record { 0 = first_address }) ∷ pass (record { 0 = first_address }) ∷ starts_from (address 0) (tracks_in o)
unfolding addresses_in sheet_of lead_in_entry pause_entry cue_entry time_frames frames_to address_of is_time address_at_time address_at
addresses o z b e =
    let w = made_of o b e in
    let n : length (tracks_in o) ≡ o.count = tracks_are o z w.0 in
    let c : o.count + 3 ≡ suc (suc (length (tracks_in o) + 1)) = omega arith in
    let r = stand_from (order_kind o) 1 0 (tracks_in o) (omega (arith, (sheeted o w.0).ends)) in
    rw (← w.1, c) (ap (λ (l : List (Outcome BlockAddress)). pass (record { 0 = first_address }) ∷ pass (record { 0 = first_address }) ∷ l) r)

-- ---- no time is of minute 90 or more

-- behind an entry of eight bytes stands the next one
later : (a b c d e f g h : ℕ) (l : List ℕ) (i : ℕ) → minute_in (suc i) (a ∷ b ∷ c ∷ d ∷ e ∷ f ∷ g ∷ h ∷ l) ≡ minute_in i l
later a b c d e f g h l i = let j : 8 * suc i + 5 ≡ suc (suc (suc (suc (suc (suc (suc (suc (8 * i + 5)))))))) = omega arith in rw j refl

minute : (at : ℕ) → at ≤ last_address → (at + 150) / 75 / 60 < lead_in_minute
minute at h = omega arith

early_from : (k : Kind) (n at : ℕ) (ts : List Track) (i : ℕ) → at + blocks_of ts ≤ last_address → minute_in i (track_entries k (number n) (address at) ts) < lead_in_minute
unfolding track_entries cue_entry start_entry lead_out_entry blocks_of time_frames frames_to
early_from k n at [] zero h = minute at (omega arith)
early_from k n at [] (suc i) h = rw (later _ _ _ _ _ _ _ _ [] i) (omega arith)
early_from k n at (t ∷ ts) zero h = minute at (omega arith)
early_from k n at (t ∷ ts) (suc i) h = rw (later _ _ _ _ _ _ _ _ (track_entries k (number (n + 1)) (address (at + t.length.0)) ts) i) (early_from k (n + 1) (at + t.length.0) ts i (omega arith))

early : (o : Order) → sheet_fault o ≡ 0 → (i : ℕ) → minute_in i (sheet_of o) < lead_in_minute
unfolding sheet_of lead_in_entry pause_entry cue_entry time_frames frames_to
early o f zero = omega arith
early o f (suc zero) = omega arith
early o f (suc (suc i)) =
    let e : minute_in (suc (suc i)) (sheet_of o) ≡ minute_in i (all_entries o) =
    later _ _ _ _ _ _ _ _ (pause_entry (order_kind o) ++ all_entries o) (suc i) ∙ later _ _ _ _ _ _ _ _ (all_entries o) i in
    rw e (early_from (order_kind o) 1 0 (tracks_in o) i (omega (arith, (sheeted o f).ends)))

pub late : (b : List ℕ) (i : ℕ) → lead_in_minute ≤ minute_in i b → read_sheet b ≡ refuse 14
unfolding read_sheet
late b i h = known (is_sheet b) yes' (λ t. simp t)
  where
    yes' : is_sheet b ≡ true → read_sheet b ≡ refuse 14
    yes' t =
        let o : Order = order_for (sheet_in b) in
        let w = made_of o b (made b (sheet_in b) (simp t)) in
        let l : minute_in i b < lead_in_minute = rw (← w.1) (early o w.0 i) in
        absurd (omega (arith, h, l))

-- what fills a buffer with the sheet of an order is all that is promised of it
pub makes : (o : Order) {r : Result ℕ Refusal} {before after : List ℕ} → length o.tracks ≡ 99 → Fills (cue_sheet o) r before after
    → MakesSheet o r before after
makes o z f =
    record { filled = f; size = made_length o z; reads_back = reads_back o z; ordered = in_order o z; addresses = addresses o z }

-- the front of what is put
pub whole : (o : Order) → length o.tracks ≡ 99 → sheet_fault o ≡ 0 → (n : ℕ) → n ≡ sheet_bytes o.count → (l : List ℕ)
    → take n (sheet_of o ++ l) ≡ sheet_of o
whole o z f n e l = rw e (take_at (sheet_of o) l (sheet_bytes o.count) (sheet_length o z f))

-- what has no sheet's length is none
pub none_so_long : (b : List ℕ) → sheet_size (length b) ≡ false → read_sheet b ≡ refuse 14
unfolding read_sheet is_sheet
none_so_long b e = simp e

-- what is promised of the sheet that bytes are
pub ruleset found = (in_few, none_so_long, made, late)
