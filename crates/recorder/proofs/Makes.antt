-- What the makers of the commands need, and that an operation at which a state passes the recorder's own test has it, and so has the one
-- after it.
use mathlib.Core.Path.{◌≡◌, refl, sym, ap, subst, ◌∙◌}
use mathlib.Core.Bool.{Bool, true, false, not, cond, ◌&&◌}
use mathlib.Core.List.{List, []}
use Prim.Native.Nat.{ℕ, suc, ◌+◌, ◌-◌, ◌*◌, ◌%◌, ◌≤◌, ◌<◌}
use native.Mathlib.Omega.{arith}
use borrow.Author.Tests.{lt-ltb, le-leb, eq-eqb, leb-true, ltb-true, eqb-true}
use lib.Dec.{ltb, leb, eqb}
use lib.IntN.{pos, negsuc}
use lib.Signed.{le_z}
use lib.ListN.{length, replicate}
use lib.Seq.{take-append_seam}
use Rattle.basics.specs.Bytes.{if}
use Rattle.mmc.specs.Refusals.{Outcome, pass, value_or}
use Rattle.mmc.specs.Order.{most_tracks}
use Rattle.mmc.specs.Times.{last_address, in_range, address_at}
use Rattle.mmc.specs.Sheet.{sheet_bytes, sheet_size}
use Rattle.mmc.specs.Commands.{send_cue_sheet, write_range, write_bytes, write_command, close_track_session}
use Rattle.mmc.specs.declared.units.BlockCount.{BlockCount}
use Rattle.mmc.specs.declared.units.FrameCount.{FrameCount}
use Rattle.mmc.specs.declared.order.Method.{Method}
use Rattle.mmc.specs.declared.order.Method.TheVariants.{Tao, Sao}
use Rattle.mmc.specs.declared.order.Recipe.{Recipe}
use Rattle.mmc.specs.declared.order.Recipe.TheVariants.{Old, New}
use Rattle.recorder.specs.declared.script.Op.{Op}
use Rattle.recorder.specs.declared.script.Op.TheVariants.{GetConfiguration, ReadDiscInformation, ReadTrackInformation, ModeSelect, SendCueSheet, Write, SynchronizeCache, CloseTrack, CloseSession, Blank, TestUnitReady, RequestSense}
use Rattle.std.specs.declared.option.Option.{Option}
use Rattle.std.specs.declared.option.Option.TheVariants.{Some, None}
use Rattle.recorder.specs.declared.replies.Reading.{Reading}
use Rattle.recorder.specs.declared.replies.Reading.TheVariants.{Unread}
use Rattle.recorder.specs.declared.exchanges.Seen.{Seen}
use Rattle.recorder.specs.Answers.{made_by, cdb_of, bytes_in}
use Rattle.recorder.specs.Script.{takes_immed, write, portion, stepwise}
use Rattle.recorder.specs.Exchanges.{see}
use Rattle.recorder.specs.Rules.{last_frame}
use Rattle.recorder.specs.Places.{piece_ended, before_block, after_track, after_synchronize, op_after}
use Rattle.recorder.specs.Job.{in_order, in_time, in_piece, is_write, stands_at}
use Rattle.std.proofs.lemmas.Bool.{and_parts, false≢true}
use Rattle.recorder.proofs.Lists.{if_yes, clash}
use Rattle.recorder.proofs.Turns.{Asks, a46, a51, a52, a03, is_asking, Reads, malformed, profile, status, information, indication, ready, unread}

-- ---- what the makers need

abbrev pub Makes : ℕ → Op → FrameCount → Type 0
Makes n GetConfiguration at = Unit {0}
Makes n ReadDiscInformation at = Unit {0}
Makes n (ReadTrackInformation t) at = Unit {0}
Makes n (ModeSelect t) at = Unit {0}
Makes n SendCueSheet at = (1 ≤ n) × (n ≤ most_tracks)
Makes n (Write t f c) at = (at.0 ≤ last_frame) × ((1 ≤ c.0) × (c.0 ≤ 16))
Makes n (SynchronizeCache t) at = Unit {0}
Makes n (CloseTrack t) at = Unit {0}
Makes n CloseSession at = Unit {0}
Makes n Blank at = Unit {0}
Makes n TestUnitReady at = Unit {0}
Makes n RequestSense at = Unit {0}

-- the bytes of a command descriptor block are those that it is made of
bytes_back : (bytes : List ℕ) → bytes_in (cdb_of bytes) ≡ bytes
unfolding cdb_of
bytes_back bytes = take-append_seam bytes (replicate (12 - length bytes) 0)

made_so : (q : Outcome (List ℕ)) (bytes : List ℕ) → q ≡ pass bytes → q ≡ pass (bytes_in (cdb_of (value_or [] q)))
made_so q bytes e = e ∙ ap pass (sym (bytes_back bytes)) ∙ ap (λ (p : Outcome (List ℕ)). pass (bytes_in (cdb_of (value_or [] p)))) (sym e)

address_fits : (f : FrameCount) → f.0 ≤ last_frame → in_range (address_at f) ≡ true
unfolding in_range address_at
address_fits f h = go (ltb f.0 150) refl
  where
    go : (b : Bool) → ltb f.0 150 ≡ b → le_z (negsuc 149) (cond b (negsuc (150 - suc f.0)) (pos (f.0 - 150))) && le_z (cond b (negsuc (150 - suc f.0)) (pos (f.0 - 150))) (pos last_address) ≡ true
    go true e = let l : 150 - suc f.0 ≤ 149 = omega arith in ap (λ (b : Bool). b && true) (le-leb _ _ l)
    go false e = let l : f.0 - 150 ≤ last_address = omega arith in le-leb _ _ l

write_made : (f : FrameCount) (c : BlockCount) → f.0 ≤ last_frame → 1 ≤ c.0 → c.0 ≤ 16 → write_command (address_at f) c ≡ pass (write_bytes (address_at f) c)
unfolding write_command write_range
write_made f c a x y =
    if_yes _ _
    (ap (λ (b : Bool). b && (leb 1 c.0 && leb c.0 16)) (address_fits f a) ∙ ap (λ (b : Bool). b && leb c.0 16) (le-leb _ _ x) ∙ le-leb _ _ y)

sheet_made : (n : ℕ) → 1 ≤ n → n ≤ most_tracks → (bytes : List ℕ) × (send_cue_sheet (sheet_bytes n) ≡ pass bytes)
unfolding send_cue_sheet sheet_size
sheet_made n h l =
    let k : ℕ = 8 * (n + 3) in
    let x : 32 ≤ 8 * (n + 3) = omega arith in
    let y : 8 * (n + 3) ≤ 816 = omega arith in
    let z : 8 * (n + 3) % 8 ≡ 0 = omega arith in
    (_, if_yes _ _ (ap (λ (b : Bool). b && (leb k 816 && eqb (k % 8) 0)) (le-leb _ _ x) ∙ ap (λ (b : Bool). b && eqb (k % 8) 0) (le-leb _ _ y) ∙ eq-eqb _ _ z))

pub made_by_lem : (immed : Bool) (n : ℕ) (x : Op) (at : FrameCount) → Makes n x at → made_by immed n (address_at at) x ≡ pass (bytes_in (cdb_of (value_or [] (made_by immed n (address_at at) x))))
unfolding close_track_session
made_by_lem immed n GetConfiguration at h = made_so _ _ refl
made_by_lem immed n ReadDiscInformation at h = made_so _ _ refl
made_by_lem immed n (ReadTrackInformation t) at h = made_so _ _ refl
made_by_lem immed n (ModeSelect t) at h = made_so _ _ refl
made_by_lem immed n SendCueSheet at h = let x = sheet_made n h.0 h.1 in made_so _ x.0 x.1
made_by_lem immed n (Write t f c) at h = made_so _ _ (write_made at c h.0 h.1.0 h.1.1)
made_by_lem immed n (SynchronizeCache t) at h = made_so _ _ refl
made_by_lem immed n (CloseTrack t) at h = made_so _ _ refl
made_by_lem immed n CloseSession at h = made_so _ _ refl
made_by_lem immed n Blank at h = made_so _ _ refl
made_by_lem immed n TestUnitReady at h = made_so _ _ refl
made_by_lem immed n RequestSense at h = made_so _ _ refl

-- ---- a state that passes the test

-- what the test says of a WRITE
pub record OfPiece (l f c : ℕ) (at : FrameCount) : Type 0 where
  pub within : f < l
  pub part : c ≡ portion l f
  pub limit : at.0 + (l - f) ≤ last_frame

pub of_piece : (l f c : ℕ) (at : FrameCount) → is_write l f c at ≡ true → OfPiece l f c at
unfolding is_write in_time
of_piece l f c at e =
    let p = and_parts (ltb f l) _ e in
    let q = and_parts (eqb c (portion l f)) _ p.1 in
    record { within = ltb-true _ _ p.0; part = eqb-true _ _ q.0; limit = leb-true _ _ q.1 }

pub own_by : (m : Method) (u : Recipe) (n l k : ℕ) (at : FrameCount) (x : Op) → 1 ≤ n → n ≤ most_tracks → stands_at m u n l k at x ≡ true → Makes n x at
own_by m u n l k at GetConfiguration a b e = tt
own_by m u n l k at ReadDiscInformation a b e = tt
own_by m u n l k at (ReadTrackInformation t) a b e = tt
own_by m u n l k at (ModeSelect t) a b e = tt
own_by m u n l k at SendCueSheet a b e = (a, b)
own_by m u n l k at (Write t f c) a b e =
    let w = of_piece l f.0 c.0 at (and_parts (in_piece m n k t.0) _ e).1 in
    let g = w.within in
    let p = w.part in
    let h = w.limit in
    (omega arith, (omega arith, omega arith))
own_by m u n l k at (SynchronizeCache t) a b e = tt
own_by m u n l k at (CloseTrack t) a b e = tt
own_by m u n l k at CloseSession a b e = tt
own_by m u n l k at Blank a b e = tt
own_by m u n l k at TestUnitReady a b e = tt
own_by m u n l k at RequestSense a b e = tt

-- a WRITE that begins in time, or what comes after a piece
on_by : (m : Method) (n l k t f : ℕ) (at : FrameCount) → at.0 ≤ last_frame → (m ≡ Sao → t < n → 0 < k) → Makes n (before_block m n l k t f) at
unfolding before_block piece_ended
on_by m n l k t f at h g = go (ltb f l) refl
  where
    over : (m : Method) → (m ≡ Sao → t < n → 0 < k) → Makes n (piece_ended m n k t) at
    over Tao g = tt
    over Sao g = by_track (ltb t n) refl
      where
        by_track : (b : Bool) → ltb t n ≡ b → Makes n (if b (write (suc t) 0 (portion k 0)) (SynchronizeCache (record { 0 = t }))) at
        by_track true q = let p = g refl (ltb-true _ _ q) in (h, (omega arith, omega arith))
        by_track false q = tt

    go : (b : Bool) → ltb f l ≡ b → Makes n (if b (write t f (portion l f)) (piece_ended m n k t)) at
    go true q = let w : f < l = ltb-true _ _ q in (h, (omega arith, omega arith))
    go false q = over m g

-- a good reply to an operation that does not ask is not read
asks_asking : {x : Op} → Asks x → is_asking x ≡ true
asks_asking a46 = refl
asks_asking a51 = refl
asks_asking a52 = refl
asks_asking a03 = refl

pub not_read : (x : Op) (r : Reading) → is_asking x ≡ false → Reads x true r → r ≡ Unread
not_read x r q (malformed a) = absurd (false≢true (sym q ∙ asks_asking a))
not_read x r q profile = absurd (false≢true (sym q))
not_read x r q status = absurd (false≢true (sym q))
not_read x r q information = absurd (false≢true (sym q))
not_read x r q indication = absurd (false≢true (sym q))
not_read x r q ready = refl
not_read x r q (unread u n) = refl

next_piece : (m : Method) (n k t : ℕ) → in_piece m n k t ≡ true → m ≡ Sao → t < n → 0 < k
unfolding in_piece
next_piece Tao n k t e s h = clash (cc)
next_piece Sao n k t e s h = ltb-true _ _ (sym (if_yes _ _ (lt-ltb _ _ h)) ∙ e)

block_due : (m : Method) (n l k t f : ℕ) → f < l → before_block m n l k t f ≡ write t f (portion l f)
unfolding before_block
block_due m n l k t f h = if_yes _ _ (lt-ltb _ _ h)

abbrev pub MakesThen : ℕ → Option Op → FrameCount → Type 0
MakesThen n (Some x) at = Makes n x at
MakesThen n None at = Unit {0}

module _ (n k : ℕ) (v : Seen) (a : 1 ≤ n) (b : n ≤ most_tracks) where
  -- after a track nothing is needed
  on_track : (t : ℕ) (at : FrameCount) → Makes n (after_track n t) at
  unfolding after_track
  on_track t at = go (ltb t n)
    where
      go : (c : Bool) → Makes n (if c (ReadTrackInformation (record { 0 = suc t })) CloseSession) at
      go true = tt
      go false = tt

  on_synchronized : (u : Recipe) (t : ℕ) (at : FrameCount) → MakesThen n (after_synchronize Tao u n t) at
  on_synchronized Old t at = tt
  on_synchronized New t at = on_track t at

  -- the reply is not read
  pub on_unread : (m : Method) (u : Recipe) (l : ℕ) (x : Op) → (x ≡ SendCueSheet → 0 < l) → stands_at m u n l k v.at x ≡ true → is_asking x ≡ false → MakesThen n (op_after m u n l k x) (see m x Unread v).at
  unfolding in_time
  on_unread m u l GetConfiguration p e q = tt
  on_unread m u l ReadDiscInformation p e q = tt
  on_unread m u l (ReadTrackInformation t) p e q = tt
  on_unread Tao u l (ModeSelect t) p e q =
      let h : v.at.0 + l ≤ last_frame = leb-true _ _ (and_parts (in_order n t.0) _ e).1 in
      on_by Tao n l k t.0 0 v.at (omega arith) (λ s g. clash (cc))
  on_unread Sao u l (ModeSelect t) p e q = (a, b)
  on_unread m u l SendCueSheet p e q =
      let h : v.at.0 + l ≤ last_frame = leb-true _ _ (and_parts (not (stepwise m)) (leb (v.at.0 + l) last_frame) e).1 in
      let w : 0 < l = p refl in
      subst (λ (y : Op). Makes n y v.at) (sym (block_due m n l k 0 0 w)) (omega arith, (omega arith, omega arith))
  on_unread m u l (Write t f c) p e q =
      let i = and_parts (in_piece m n k t.0) _ e in
      let w = of_piece l f.0 c.0 v.at i.1 in
      let g = w.within in
      let y = w.part in
      let h = w.limit in
      on_by m n l k t.0 (f.0 + c.0) (see m (Write t f c) Unread v).at (omega arith) (next_piece m n k t.0 i.0)
  on_unread Tao u l (SynchronizeCache t) p e q = on_synchronized u t.0 v.at
  on_unread Sao u l (SynchronizeCache t) p e q = tt
  on_unread m u l (CloseTrack t) p e q = on_track t.0 v.at
  on_unread m u l CloseSession p e q = tt
  on_unread m u l Blank p e q = tt
  on_unread m u l TestUnitReady p e q = absurd (false≢true e)
  on_unread m u l RequestSense p e q = absurd (false≢true e)

  -- after an asking operation nothing is needed
  pub on_asking : (m : Method) (u : Recipe) (l : ℕ) (x : Op) (at : FrameCount) → is_asking x ≡ true → MakesThen n (op_after m u n l k x) at
  on_asking m u l GetConfiguration at q = tt
  on_asking m u l ReadDiscInformation at q = tt
  on_asking m u l (ReadTrackInformation t) at q = tt
  on_asking m u l (ModeSelect t) at q = absurd (false≢true q)
  on_asking m u l SendCueSheet at q = absurd (false≢true q)
  on_asking m u l (Write t f c) at q = absurd (false≢true q)
  on_asking m u l (SynchronizeCache t) at q = absurd (false≢true q)
  on_asking m u l (CloseTrack t) at q = absurd (false≢true q)
  on_asking m u l CloseSession at q = absurd (false≢true q)
  on_asking m u l Blank at q = absurd (false≢true q)
  on_asking m u l TestUnitReady at q = absurd (false≢true q)
  on_asking m u l RequestSense at q = tt

  -- nor after one that takes Immed, wherever the next block goes
  pub on_closed : (m : Method) (u : Recipe) (l : ℕ) (x : Op) (at : FrameCount) → takes_immed x ≡ true → MakesThen n (op_after m u n l k x) at
  on_closed m u l GetConfiguration at q = absurd (false≢true q)
  on_closed m u l ReadDiscInformation at q = absurd (false≢true q)
  on_closed m u l (ReadTrackInformation t) at q = absurd (false≢true q)
  on_closed m u l (ModeSelect t) at q = absurd (false≢true q)
  on_closed m u l SendCueSheet at q = absurd (false≢true q)
  on_closed m u l (Write t f c) at q = absurd (false≢true q)
  on_closed Tao u l (SynchronizeCache t) at q = on_synchronized u t.0 at
  on_closed Sao u l (SynchronizeCache t) at q = tt
  on_closed m u l (CloseTrack t) at q = on_track t.0 at
  on_closed m u l CloseSession at q = tt
  on_closed m u l Blank at q = tt
  on_closed m u l TestUnitReady at q = absurd (false≢true q)
  on_closed m u l RequestSense at q = absurd (false≢true q)
