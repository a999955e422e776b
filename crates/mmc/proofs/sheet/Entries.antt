-- The entries of a sheet, put one after another, and the orders that have a sheet.
use mathlib.Core.Path.{◌≡◌, refl, sym, ap, ◌∙◌}
use mathlib.Core.List.{List, [], ◌∷◌, ◌++◌, append_assoc}
use mathlib.Core.Bool.{Bool, true, false, not, ◌&&◌, ◌||◌}
use Prim.Native.Nat.{ℕ, ◌+◌, ◌*◌, ◌≤◌, ◌<◌}
use native.Mathlib.Omega.{arith}
use lib.IntN.{pos}
use native.Mathlib.Numerals.{add-one}
use lib.ListN.{length, get_or, take, drop, length-append, drop_of_length-le, length-take}
use lib.Seq.{length-take-le, drop-drop, drop-cons}
use lib.Dec.{eqb}
use borrow.Author.Tests.{le-leb, ltb-false}
use Rattle.std.specs.Prelude.{Result, Ok, Err}
use Rattle.std.specs.Result.{is_err}
use Rattle.std.proofs.lemmas.Bool.{false≢true}
use Rattle.mmc.specs.Refusals.{fault_in}
use Rattle.mmc.proofs.refusals.Laws.{numbered}
use Rattle.mmc.specs.declared.refusals.Refusal.{Refusal}
use Rattle.basics.specs.Bytes.{put_at, if}
use Rattle.basics.proofs.Bytes.{put_next, put_take, put_drop}
use Rattle.mmc.specs.Order.{no_track, valid_order, all_kind, all_long, blocks_of, tracks_in, order_kind, is_sao, mixed_or_kept, overlong}
use Rattle.mmc.specs.Sheet.{cue_entry, lead_in_entry, pause_entry, start_entry, lead_out_entry, next_track, behind as beyond, track_entries, all_entries, sheet_of, sheet_bytes, sheet_fault, HasRoom}
use Rattle.mmc.specs.Times.{in_range, last_address}
use Rattle.mmc.proofs.order.Tracks.{valid_few}
use Rattle.mmc.specs.declared.units.BlockAddress.{BlockAddress}
use Rattle.mmc.specs.declared.units.TrackNumber.{TrackNumber}
use Rattle.mmc.specs.declared.order.Order.{Order}
use Rattle.mmc.specs.declared.order.Track.{Track}
use Rattle.mmc.specs.declared.order.Kind.{Kind}

-- the address n, and the track with the number n
abbrev pub address : ℕ → BlockAddress
address n = record { 0 = pos n }

abbrev pub number : ℕ → TrackNumber
number n = record { 0 = n }

pub has_time_lem : (n : ℕ) → n ≤ last_address → in_range (address n) ≡ true
unfolding in_range
has_time_lem n h = le-leb n _ h

entries_first : (k : Kind) (n : TrackNumber) (at : BlockAddress) (t : Track) (ts : List Track)
    → track_entries k n at (t ∷ ts) ≡ start_entry k n at ++ track_entries k (next_track n) (beyond at t.length) ts
unfolding track_entries
entries_first k n at t ts = refl

blocks_first : (t : Track) (ts : List Track) → blocks_of (t ∷ ts) ≡ t.length.0 + blocks_of ts
unfolding blocks_of
blocks_first t ts = refl

-- each entry has 8 bytes
pub start_length : (k : Kind) (n : TrackNumber) (at : BlockAddress) → length (start_entry k n at) ≡ 8
unfolding start_entry cue_entry
start_length k n at = refl

pub out_length : (k : Kind) (at : BlockAddress) → length (lead_out_entry k at) ≡ 8
unfolding lead_out_entry cue_entry
out_length k at = refl

pub entries_length : (k : Kind) (n : TrackNumber) (at : BlockAddress) (ts : List Track) → length (track_entries k n at ts) ≡ 8 * (length ts + 1)
unfolding track_entries
entries_length k n at [] = out_length k at
entries_length k n at (t ∷ ts) =
    let e : List ℕ = start_entry k n at in
    let r : List ℕ = track_entries k (next_track n) (beyond at t.length) ts in
    omega (arith, length-append e r, start_length k n at, entries_length k (next_track n) (beyond at t.length) ts)

-- ---- the loop that puts the tracks: with what is left put behind what is put, the buffer is that with all of them put

pub record Putting (k : Kind) (ts : List Track) (out₀ out : List ℕ) (at : BlockAddress) (i : ℕ) : Type 0 where
  pub long : length out ≡ length out₀
  pub room : 8 * (length ts + 3) ≤ length out₀
  pub sum : ℕ
  pub stands : at ≡ address sum
  pub ends : sum + blocks_of (drop i ts) ≤ last_address
  pub left :
      put_at out (16 + 8 * i) (track_entries k (number (i + 1)) at (drop i ts))
      ≡ put_at out₀ 16 (track_entries k (number 1) (address 0) ts)

pub putting_start : (k : Kind) (o : Order) (ts : List Track) (out : List ℕ)
    → HasRoom o (length out) → ts ≡ tracks_in o → Putting k ts out out (address 0) 0
putting_start k o ts out h e =
    let few : length ts ≤ o.count = rw e (omega (arith, length-take o.count o.tracks)) in
    let ends : 0 + blocks_of (drop 0 ts) ≤ last_address = rw e (omega (arith, h.ends)) in
    record { long = refl; room = omega (arith, few, h.holds); sum = 0; stands = refl; ends = ends; left = refl }

-- what is put, in its three parts
parts : (d : List ℕ) (p : ℕ) (s : List ℕ) → put_at d p s ≡ take p d ++ s ++ drop (p + length s) d
unfolding put_at
parts d p s = refl

-- what is put in two parts
put_twice : (d s t : List ℕ) (p q : ℕ) → p + length s ≤ length d → q ≡ p + length s
    → put_at (put_at d p s) q t ≡ put_at d p (s ++ t)
put_twice d s t p q h e =
    let n : q + length t ≡ p + length (s ++ t) = omega (arith, length-append s t) in
    let a : take q (put_at d p s) ≡ take p d ++ s = put_take d s p q h e in
    let b : drop (q + length t) (put_at d p s) ≡ drop (p + length (s ++ t)) d =
    sym (drop-drop (length t) q (put_at d p s))
    ∙ ap (drop (length t)) (put_drop d s p q h e)
    ∙ drop-drop (length t) q d
    ∙ ap (λ (j : ℕ). drop j d) n in
    rw (parts (put_at d p s) q t, a, b, parts d p (s ++ t)) (simp append_assoc)

module _ (k : Kind) (ts : List Track) (out₀ out : List ℕ) (at : BlockAddress) (i : ℕ) (p : Putting k ts out₀ out at i) where
  pub at_time : in_range at ≡ true
  at_time = rw p.stands (has_time_lem p.sum (omega (arith, p.ends)))

  pub putting_next : i < length ts → (out' : List ℕ)
      → out' ≡ put_at out (16 + 8 * i) (start_entry k (number (i + 1)) at) → length out' ≡ length out
      → Putting k ts out₀ out' (beyond at (get_or ts i no_track).length) (i + 1)
  putting_next h out' eo n' =
      let t : Track = get_or ts i no_track in
      let s : List ℕ = start_entry k (number (i + 1)) at in
      let rest : List ℕ = track_entries k (number (i + 1 + 1)) (beyond at t.length) (drop (i + 1) ts) in
      let s8 : length s ≡ 8 = start_length k (number (i + 1)) at in
      let one : drop i ts ≡ t ∷ drop (i + 1) ts = rw (add-one, drop-cons ts i no_track h) refl in
      let here : track_entries k (number (i + 1)) at (drop i ts) ≡ s ++ rest =
      ap (track_entries k (number (i + 1)) at) one ∙ entries_first k (number (i + 1)) at t (drop (i + 1) ts) in
      let fit : 16 + 8 * i + length s ≤ length out = omega (arith, p.room, p.long, s8) in
      let both_put : put_at out' (16 + 8 * (i + 1)) rest ≡ put_at out (16 + 8 * i) (s ++ rest) =
      rw eo (put_twice out s rest (16 + 8 * i) (16 + 8 * (i + 1)) fit (omega (arith, s8))) in
      record {
        long = n' ∙ p.long;
        room = p.room;
        sum = p.sum + t.length.0;
        stands = rw p.stands refl;
        ends = omega (arith, p.ends, ap blocks_of one, blocks_first t (drop (i + 1) ts));
        left = both_put ∙ ap (put_at out (16 + 8 * i)) (sym here) ∙ p.left;
      }

  pub putting_end : i ≡ length ts → (o : Order) → k ≡ order_kind o → ts ≡ tracks_in o → (s out' : List ℕ)
      → s ≡ lead_out_entry k at → out' ≡ put_at out (16 + 8 * length ts) s
      → out' ≡ put_at out₀ 16 (all_entries o)
  unfolding track_entries
  putting_end h o ek et s out' es eo =
      let none : drop i ts ≡ [] = drop_of_length-le ts (omega (arith, h)) in
      let left_out = λ (l : List Track). put_at out (16 + 8 * i) (track_entries k (number (i + 1)) at l) in
      eo ∙ rw (es, ← h, ← ek, ← et) (ap left_out (sym none) ∙ p.left)

-- ---- the whole sheet

sheet_put : (o : Order) (d : List ℕ) → o.count ≤ length o.tracks
    → put_at (put_at (put_at d 0 (lead_in_entry (order_kind o))) 8 (pause_entry (order_kind o))) 16 (all_entries o) ≡ sheet_of o ++ drop (sheet_bytes o.count) d
unfolding sheet_of cue_entry lead_in_entry pause_entry
sheet_put o d h =
    let one : List ℕ = lead_in_entry (order_kind o) in
    let two : List ℕ = pause_entry (order_kind o) in
    let rest : List ℕ = all_entries o in
    let n : 16 + length rest ≡ sheet_bytes o.count = omega (arith, entries_length (order_kind o) (number 1) (address 0) (tracks_in o), length-take-le o.count o.tracks h) in
    ap (λ (t : List ℕ). put_at (put_at t 8 two) 16 rest) (put_next [] d one 0 refl)
    ∙ ap (λ (t : List ℕ). put_at t 16 rest) (put_next one d two 8 refl)
    ∙ put_next (one ++ two) d rest 16 refl
    ∙ ap (λ (j : ℕ). one ++ two ++ rest ++ drop j d) n

-- put in three steps, as the code does
pub sheet_steps : (o : Order) (d : List ℕ) {d₁ d₂ d₃ one two : List ℕ} {k : Kind} → o.count ≤ length o.tracks → k ≡ order_kind o → one ≡ lead_in_entry k → d₁ ≡ put_at d 0 one → two ≡ pause_entry k → d₂ ≡ put_at d₁ 8 two
    → d₃ ≡ put_at d₂ 16 (all_entries o) → d₃ ≡ sheet_of o ++ drop (sheet_bytes o.count) d
sheet_steps o d h ek e1 p1 e2 p2 p3 = cc (sheet_put o d h)

-- ---- an order that has a sheet

pub record Sheeted (o : Order) : Type 0 where
  pub valid : valid_order o ≡ true
  pub sao : is_sao o.method ≡ true
  pub closed : o.keep ≡ false
  pub kinds : all_kind (order_kind o) (tracks_in o) ≡ true
  pub long : all_long (tracks_in o) ≡ true
  pub ends : blocks_of (tracks_in o) ≤ last_address

-- five tests, none of which applied
passed : (v s m l e : Bool) → ◌≡◌ {A = ℕ} (if (not v) 3 (if (not s) 3 (if m 8 (if (not l) 9 (if e 10 0))))) 0
    → (v ≡ true) × (s ≡ true) × (m ≡ false) × (l ≡ true) × (e ≡ false)
passed true true false true false h = (refl, refl, refl, refl, refl)
passed true true false true true h = absurd (omega arith)
passed true true false false e h = absurd (omega arith)
passed true true true l e h = absurd (omega arith)
passed true false m l e h = absurd (omega arith)
passed false s m l e h = absurd (omega arith)

-- a session at once that is not refused with 8
unmixed : (s p k : Bool) → s ≡ true → ((s && p) || (s && not k)) ≡ false → (p ≡ false) × (k ≡ true)
unmixed true false true e h = (refl, refl)
unmixed true false false e h = (refl, sym h)
unmixed true true k e h = (h, absurd (let w : ◌≡◌ {A = ℕ} 0 1 = cc in omega arith))
unmixed false p k e h = absurd (let w : ◌≡◌ {A = ℕ} 0 1 = cc in omega arith)

pub sheeted : (o : Order) → sheet_fault o ≡ 0 → Sheeted o
unfolding sheet_fault mixed_or_kept overlong
sheeted o h =
    let w = passed (valid_order o) (is_sao o.method) (mixed_or_kept o) (all_long (tracks_in o)) (overlong o) h in
    let u = unmixed (is_sao o.method) o.keep (all_kind (order_kind o) (tracks_in o)) w.1 w.2 in
    record { valid = w.0; sao = w.1; closed = u.0; kinds = u.1; long = w.3; ends = omega (arith, ltb-false last_address (blocks_of (tracks_in o)) w.4) }

pub has_room : (o : Order) (room : ℕ) → sheet_fault o ≡ 0 → sheet_bytes o.count ≤ room → HasRoom o room
has_room o room h r =
    let s = sheeted o h in
    record { few = valid_few o s.valid; ends = s.ends; holds = r }

-- a sheet of 99 tracks is the longest
pub most_room : (o : Order) → sheet_fault o ≡ 0 → HasRoom o 816
most_room o h = has_room o 816 h (omega (arith, valid_few o (sheeted o h).valid))

-- what a test answers
pub faultless : {A : Type 0} (r : Result A Refusal) → is_err r ≡ false → fault_in r ≡ 0
faultless (Ok a) e = refl
faultless (Err r) e = absurd (false≢true (sym e))

pub faulty : {A : Type 0} (r : Result A Refusal) → is_err r ≡ true → eqb (fault_in r) 0 ≡ false
faulty (Ok a) e = absurd (false≢true e)
faulty (Err r) e = numbered r
