-- How an operation that is due stands to what was seen and to what the latest 52h named, and that the next one stands so too.
use mathlib.Core.Path.{◌≡◌, refl, sym, ap, subst, ◌∙◌}
use mathlib.Core.Bool.{Bool, true, false, not, ◌&&◌}
use mathlib.Core.List.{List, [], ◌∷◌}
use Prim.Native.Nat.{ℕ, zero, suc, ◌+◌, ◌-◌, ◌≤◌, ◌<◌}
use native.Mathlib.Omega.{arith}
use borrow.Author.Tests.{ltb-true, ltb-false, leb-true, le-leb, not-false}
use lib.Dec.{ltb, leb}
use lib.ListN.{length, get_or, drop}
use lib.Seq.{drop-cons}
use Rattle.basics.specs.Bytes.{if}
use Rattle.mmc.specs.Order.{is_new, least_blocks, no_track, tracks_in, all_long, blocks_of, mixed_or_kept}
use Rattle.mmc.specs.Times.{last_address, lead_frames, frames_to}
use Rattle.mmc.specs.declared.order.Order.{Order}
use Rattle.mmc.specs.declared.order.Track.{Track}
use Rattle.mmc.specs.declared.order.Method.{Method}
use Rattle.mmc.specs.declared.order.Method.TheVariants.{Tao, Sao}
use Rattle.mmc.specs.declared.order.Recipe.{Recipe}
use Rattle.mmc.specs.declared.order.Recipe.TheVariants.{Old, New}
use Rattle.recorder.specs.declared.script.Op.{Op}
use Rattle.recorder.specs.declared.script.Op.TheVariants.{GetConfiguration, ReadDiscInformation, ReadTrackInformation, ModeSelect, SendCueSheet, Write, SynchronizeCache, CloseTrack, CloseSession, Blank, TestUnitReady, RequestSense}
use Rattle.std.specs.declared.option.Option.{Option}
use Rattle.std.specs.declared.option.Option.TheVariants.{Some, None}
use Rattle.recorder.specs.declared.replies.TrackInformation.{TrackInformation}
use Rattle.recorder.specs.declared.replies.Reading.{Reading}
use Rattle.recorder.specs.declared.replies.Reading.TheVariants.{Unread}
use Rattle.recorder.specs.declared.exchanges.Seen.{Seen}
use Rattle.recorder.specs.Script.{takes_immed, write, portion}
use Rattle.recorder.specs.Exchanges.{Named, see, name}
use Rattle.recorder.specs.Rules.{still, needed, lead_out, last_frame, fits, track_tests, judge, none, refused_by}
use Rattle.recorder.specs.Places.{piece_ended, before_block, after_track, after_synchronize, piece_of, after_in}
use Rattle.std.proofs.lemmas.Bool.{and_parts, false≢true}
use Rattle.recorder.proofs.Lists.{none_found, passed_clear}
use Rattle.recorder.proofs.Turns.{is_asking, Reads, malformed, profile, status, information, indication, ready, unread}
use Rattle.recorder.proofs.Scripts.{by}
use Rattle.recorder.specs.History.{Recordable}
use Rattle.recorder.proofs.Erasing.{is_later}
use Rattle.recorder.proofs.Apart.{Passed, passed}
use Rattle.recorder.proofs.Behind.{Sized, track_length}

-- ---- the blocks of the tracks after the first t

abbrev pub blocks_after : Order → ℕ → ℕ
blocks_after o t = blocks_of (drop t (tracks_in o))

pub blocks_less : (o : Order) (t : ℕ) → t < length (tracks_in o) → blocks_after o t ≡ piece_of o (suc t) + blocks_after o (suc t)
unfolding blocks_of
blocks_less o t h = ap blocks_of (drop-cons (tracks_in o) t no_track h) ∙ ap (λ (l : ℕ). l + blocks_after o (suc t)) (track_length o t h)

long_in : (xs : List Track) (t : ℕ) → all_long xs ≡ true → t < length xs → least_blocks ≤ (get_or xs t no_track).length.0
unfolding all_long
long_in [] t e h = absurd (omega arith)
long_in (x ∷ xs) zero e h = leb-true _ _ (and_parts (leb least_blocks x.length.0) (all_long xs) e).0
long_in (x ∷ xs) (suc t) e h = long_in xs t (and_parts (leb least_blocks x.length.0) (all_long xs) e).1 (omega arith)

-- no track is empty
pub long_at : (o : Order) (t : ℕ) → all_long (tracks_in o) ≡ true → t < length (tracks_in o) → 0 < piece_of o (suc t)
long_at o t e h =
    let l = long_in (tracks_in o) t e h in
    let a = track_length o t h in
    omega arith

-- ---- how an operation stands

pub record InOrder (o : Order) (t : ℕ) : Type 0 where
  pub one : 1 ≤ t
  pub few : t ≤ o.count

-- TAO, in a track whose 52h has passed
pub record InTrack (o : Order) (t : ℕ) (n : Named) : Type 0 where
  pub in_order : InOrder o t
  pub of_track : t ≡ n.track
  pub limit : n.start + piece_of o t ≤ last_frame
  pub room : piece_of o t ≤ n.free

-- SAO, once 8, 9 and 10 have passed
pub record InSession (o : Order) : Type 0 where
  pub alike : mixed_or_kept o ≡ false
  pub long : all_long (tracks_in o) ≡ true
  pub limit : blocks_of (tracks_in o) ≤ last_address

-- c blocks from the block f of l on are a WRITE
pub record IsWrite (l f c : ℕ) : Type 0 where
  pub within : f < l
  pub part : c ≡ portion l f

-- SAO, before the block f of a piece: what is left of it and what comes after it fill the session
pub record InPiece (o : Order) (t f : ℕ) (v : Seen) : Type 0 where
  pub few : t ≤ o.count
  pub fills : v.at.0 + (piece_of o t - f) + blocks_after o t ≡ lead_frames + blocks_of (tracks_in o)

abbrev pub Standing : Method → Order → Op → Seen → Named → Type 0
Standing m o GetConfiguration v n = v.at.0 ≡ 0
Standing m o ReadDiscInformation v n = v.at.0 ≡ 0
Standing Tao o (ReadTrackInformation t) v n = InOrder o t.0
Standing Sao o (ReadTrackInformation t) v n = (t.0 ≡ 1) × (v.at.0 ≡ 0)
Standing Tao o (ModeSelect t) v n = InTrack o t.0 n × (v.at.0 ≡ n.start)
Standing Sao o (ModeSelect t) v n = InSession o × ((t.0 ≡ 1) × (v.at.0 ≡ 0))
Standing Tao o SendCueSheet v n = ⊥
Standing Sao o SendCueSheet v n = InSession o × (v.at.0 ≡ 0)
Standing Tao o (Write t f c) v n = InTrack o t.0 n × (IsWrite (piece_of o t.0) f.0 c.0 × (v.at.0 ≡ n.start + f.0))
Standing Sao o (Write t f c) v n = InSession o × (IsWrite (piece_of o t.0) f.0 c.0 × InPiece o t.0 f.0 v)
Standing m o (SynchronizeCache t) v n = InOrder o t.0
Standing Tao o (CloseTrack t) v n = (is_new o.recipe ≡ false) × InOrder o t.0
Standing Sao o (CloseTrack t) v n = ⊥
Standing Tao o CloseSession v n = Unit {0}
Standing Sao o CloseSession v n = ⊥
Standing m o Blank v n = (o.erase ≡ true) × (v.at.0 ≡ 0)
Standing m o TestUnitReady v n = ⊥
Standing m o RequestSense v n = ⊥

abbrev pub StandingThen : Method → Order → Option Op → Seen → Named → Type 0
StandingThen m o (Some x) v n = Standing m o x v n
StandingThen m o None v n = Unit {0}

-- ---- within a piece

in_track : (o : Order) (t f : ℕ) (v : Seen) (n : Named) → InTrack (by o Tao) t n → v.at.0 ≡ n.start + f → Standing Tao (by o Tao) (before_block Tao o.count (piece_of (by o Tao) t) (piece_of (by o Tao) (suc t)) t f) v n
unfolding before_block piece_ended
in_track o t f v n i e = go (ltb f (piece_of (by o Tao) t)) refl
  where
    go : (b : Bool) → ltb f (piece_of (by o Tao) t) ≡ b → Standing Tao (by o Tao) (if b (write t f (portion (piece_of (by o Tao) t) f)) (SynchronizeCache (record { 0 = t }))) v n
    go true q = (i, (record { within = ltb-true _ _ q; part = refl }, e))
    go false q = i.in_order

in_session : (o : Order) (t f : ℕ) (v : Seen) (n : Named) → Sized o → InSession (by o Sao) → InPiece (by o Sao) t f v → Standing Sao (by o Sao) (before_block Sao o.count (piece_of (by o Sao) t) (piece_of (by o Sao) (suc t)) t f) v n
unfolding before_block piece_ended
in_session o t f v n z i p = go (ltb f (piece_of (by o Sao) t)) refl
  where
    over : piece_of (by o Sao) t ≤ f → (b : Bool) → ltb t o.count ≡ b → Standing Sao (by o Sao) (if b (write (suc t) 0 (portion (piece_of (by o Sao) (suc t)) 0)) (SynchronizeCache (record { 0 = t }))) v n
    over g true q =
        let h : t < o.count = ltb-true _ _ q in
        let a = z.all in
        let k : t < length (tracks_in o) = omega arith in
        let l = long_at (by o Sao) t i.long k in
        let y = blocks_less (by o Sao) t k in
        let x = p.fills in
        (i, (record { within = l; part = refl }, record { few = h; fills = omega arith }))
    over g false q =
        let h : o.count ≤ t = ltb-false _ _ q in
        let s = z.some in
        record { one = omega arith; few = p.few }

    go : (b : Bool) → ltb f (piece_of (by o Sao) t) ≡ b → Standing Sao (by o Sao) (if b (write t f (portion (piece_of (by o Sao) t) f)) (if (ltb t o.count) (write (suc t) 0 (portion (piece_of (by o Sao) (suc t)) 0)) (SynchronizeCache (record { 0 = t })))) v n
    go true q = (i, (record { within = ltb-true _ _ q; part = refl }, p))
    go false q = over (ltb-false _ _ q) (ltb t o.count) refl

-- ---- after a 52h that passed

pub limits : (m : Method) (s : ℕ) (i : TrackInformation) → not (fits m s i) ≡ false → (s ≤ i.free.0) × (lead_out m s i ≤ last_frame)
unfolding fits
limits m s i e = let p = and_parts (leb s i.free.0) (leb (lead_out m s i) last_frame) (not-false _ e) in (leb-true _ _ p.0, leb-true _ _ p.1)

pub fits_within : (m : Method) (s : ℕ) (i : TrackInformation) → s ≤ i.free.0 → lead_out m s i ≤ last_frame → not (fits m s i) ≡ false
unfolding fits
fits_within m s i h l = ap not (ap (λ (b : Bool). b && leb (lead_out m s i) last_frame) (le-leb _ _ h) ∙ le-leb _ _ l)

informed_tao : (o : Order) (t : ℕ) (v : Seen) (i : TrackInformation) → Sized o → InOrder (by o Tao) t → Passed (by o Tao) t v i → InTrack (by o Tao) t (record { track = t; start = (frames_to i.address).0; free = i.free.0 })
informed_tao o zero v i z r p = let h = r.one in absurd (omega arith)
informed_tao o (suc t) v i z r p =
    let w = limits Tao (needed (by o Tao) (suc t)) i p.fitting in
    let e : still (by o Tao) (suc t) ≡ blocks_after (by o Tao) t = let k : suc t - 1 ≡ t = omega arith in ap (blocks_after o) k in
    let h = r.few in
    let a = z.all in
    let y = blocks_less (by o Tao) t (omega arith) in
    record { in_order = r; of_track = refl; limit = omega arith; room = omega arith }

-- 8 and 9 have passed here or, with flag bit 3, before
informed_sao : (o : Order) (v : Seen) (i : TrackInformation) → (o.erase ≡ true → Recordable (by o Sao)) → Passed (by o Sao) 1 v i → InSession (by o Sao)
informed_sao o v i early p = go o.erase refl
  where
    go : (b : Bool) → o.erase ≡ b → InSession (by o Sao)
    go true e = let r = early e in let h = r.ends in record { alike = r.alike; long = r.long; limit = omega arith }
    go false e =
        let c = p.opening refl e in
        let w = limits Sao (needed (by o Sao) 1) i p.fitting in
        record { alike = c.1.1.1.1.0; long = not-false _ c.1.1.1.1.1.0; limit = omega arith }

-- with flag bit 3 8, 9 and the lead-out limit have passed before a 52h
abbrev pub Early : Order → Op → Type 0
Early o x = is_later x ≡ true → o.erase ≡ true → Recordable o

-- ---- the next operation

after_closed : (o : Order) (t : ℕ) (v : Seen) (n : Named) → Standing Tao (by o Tao) (after_track o.count t) v n
unfolding after_track
after_closed o t v n = go (ltb t o.count) refl
  where
    go : (b : Bool) → ltb t o.count ≡ b → Standing Tao (by o Tao) (if b (ReadTrackInformation (record { 0 = suc t })) CloseSession) v n
    go true q = record { one = omega arith; few = ltb-true _ _ q }
    go false q = tt

-- after 35h, by the recipe
synchronized : (q : Recipe) (o : Order) (t : ℕ) (v : Seen) (n : Named) → o.recipe ≡ q → InOrder (by o Tao) t → StandingThen Tao (by o Tao) (after_synchronize Tao q o.count t) v n
synchronized Old o t v n e s = (ap is_new e, s)
synchronized New o t v n e s = after_closed o t v n

first_track : (m : Method) (o : Order) (v : Seen) (n : Named) → Sized o → v.at.0 ≡ 0 → Standing m (by o m) (ReadTrackInformation (record { 0 = 1 })) v n
first_track Tao o v n z s = record { one = omega arith; few = z.some }
first_track Sao o v n z s = (refl, s)

-- where an operation stands that takes Immed, and what comes after it, hangs on nothing that is seen or named but where the next block
-- goes: polls may come in between
pub standing_closing : (m : Method) (o : Order) (x : Op) (v w : Seen) (n k : Named) → Standing m o x v n → takes_immed x ≡ true → w.at.0 ≡ v.at.0 → Standing m o x w k
standing_closing m o GetConfiguration v w n k s c e = absurd (false≢true c)
standing_closing m o ReadDiscInformation v w n k s c e = absurd (false≢true c)
standing_closing m o (ReadTrackInformation t) v w n k s c e = absurd (false≢true c)
standing_closing m o (ModeSelect t) v w n k s c e = absurd (false≢true c)
standing_closing m o SendCueSheet v w n k s c e = absurd (false≢true c)
standing_closing m o (Write t f d) v w n k s c e = absurd (false≢true c)
standing_closing m o (SynchronizeCache t) v w n k s c e = s
standing_closing Tao o (CloseTrack t) v w n k s c e = s
standing_closing Sao o (CloseTrack t) v w n k s c e = absurd s
standing_closing Tao o CloseSession v w n k s c e = tt
standing_closing Sao o CloseSession v w n k s c e = absurd s
standing_closing m o Blank v w n k s c e = (s.0, e ∙ s.1)
standing_closing m o TestUnitReady v w n k s c e = absurd s
standing_closing m o RequestSense v w n k s c e = absurd s

stood_closing : (m : Method) (o : Order) (x : Op) (v w : Seen) (n k : Named) → Standing m (by o m) x v n → takes_immed x ≡ true → w.at.0 ≡ v.at.0 → StandingThen m (by o m) (after_in (by o m) x) w k
stood_closing m o GetConfiguration v w n k s c e = absurd (false≢true c)
stood_closing m o ReadDiscInformation v w n k s c e = absurd (false≢true c)
stood_closing m o (ReadTrackInformation t) v w n k s c e = absurd (false≢true c)
stood_closing m o (ModeSelect t) v w n k s c e = absurd (false≢true c)
stood_closing m o SendCueSheet v w n k s c e = absurd (false≢true c)
stood_closing m o (Write t f d) v w n k s c e = absurd (false≢true c)
stood_closing Tao o (SynchronizeCache t) v w n k s c e = synchronized o.recipe o t.0 w k refl s
stood_closing Sao o (SynchronizeCache t) v w n k s c e = tt
stood_closing Tao o (CloseTrack t) v w n k s c e = after_closed o t.0 w k
stood_closing Sao o (CloseTrack t) v w n k s c e = absurd s
stood_closing m o CloseSession v w n k s c e = tt
stood_closing m o Blank v w n k s c e = e ∙ s.1
stood_closing m o TestUnitReady v w n k s c e = absurd s
stood_closing m o RequestSense v w n k s c e = absurd s

-- within the tracks: the reply is not read
stood_on : (m : Method) (o : Order) (x : Op) (v : Seen) (n : Named) → Sized o → Standing m (by o m) x v n → is_asking x ≡ false → StandingThen m (by o m) (after_in (by o m) x) (see m x Unread v) n
stood_on m o GetConfiguration v n z s q = absurd (false≢true (sym q))
stood_on m o ReadDiscInformation v n z s q = absurd (false≢true (sym q))
stood_on m o (ReadTrackInformation t) v n z s q = absurd (false≢true (sym q))
stood_on Tao o (ModeSelect t) v n z s q = let e = s.1 in in_track o t.0 0 (see Tao (ModeSelect t) Unread v) n s.0 (omega arith)
stood_on Sao o (ModeSelect t) v n z s q = (s.0, s.1.1)
stood_on Tao o SendCueSheet v n z s q = absurd s
stood_on Sao o SendCueSheet v n z s q = let e = s.1 in in_session o 0 0 (see Sao SendCueSheet Unread v) n z s.0 (record { few = omega arith; fills = omega arith })
stood_on Tao o (Write t f c) v n z s q = let e = s.1.1 in in_track o t.0 (f.0 + c.0) (see Tao (Write t f c) Unread v) n s.0 (omega arith)
stood_on Sao o (Write t f c) v n z s q =
    let w = s.1.0.within in
    let p = s.1.0.part in
    let x = s.1.1.fills in
    in_session o t.0 (f.0 + c.0) (see Sao (Write t f c) Unread v) n z s.0 (record { few = s.1.1.few; fills = omega arith })
stood_on m o (SynchronizeCache t) v n z s q = stood_closing m o (SynchronizeCache t) v _ n n s refl refl
stood_on m o (CloseTrack t) v n z s q = stood_closing m o (CloseTrack t) v _ n n s refl refl
stood_on m o CloseSession v n z s q = tt
stood_on m o Blank v n z s q = s.1
stood_on m o TestUnitReady v n z s q = absurd s
stood_on m o RequestSense v n z s q = absurd s

stood_by : (m : Method) (o : Order) (x : Op) (r : Reading) (v : Seen) (n : Named) → Sized o → Early (by o m) x → Standing m (by o m) x v n → Reads x true r → refused_by (judge (by o m) v x r) ≡ none → StandingThen m (by o m) (after_in (by o m) x) (see m x r v) (name x r n)
stood_by m o x r v n z early s (malformed a) j = absurd (none_found _ (sym j))
stood_by m o x r v n z early s profile j = s
stood_by m o x r v n z early s status j = first_track m o _ n z s
stood_by Tao o x r v n z early s (information {t = t} {i = i}) j = (informed_tao o t.0 v i z s (passed (by o Tao) t.0 v i (passed_clear (track_tests (by o Tao) t.0 v i) [] j)), refl)
stood_by Sao o x r v n z early s (information {t = t} {i = i}) j =
    (informed_sao o v i (early refl) (subst (λ (k : ℕ). Passed (by o Sao) k v i) s.0 (passed (by o Sao) t.0 v i (passed_clear (track_tests (by o Sao) t.0 v i) [] j))), s)
stood_by m o x r v n z early s indication j = absurd s
stood_by m o x r v n z early s ready j = absurd s
stood_by m o x r v n z early s (unread q i) j = stood_on m o x v n z s q

-- a good reply that passes
pub stood : (o : Order) (x : Op) (r : Reading) (v : Seen) (n : Named) → Sized o → Early o x → Standing o.method o x v n → Reads x true r → refused_by (judge o v x r) ≡ none → StandingThen o.method o (after_in o x) (see o.method x r v) (name x r n)
stood o x r v n z early s w j = stood_by o.method o x r v n z early s w j

-- the end of a polling
pub stood_polled : (o : Order) (x : Op) (v w : Seen) (n k : Named) → Standing o.method o x v n → takes_immed x ≡ true → w.at.0 ≡ v.at.0 → StandingThen o.method o (after_in o x) w k
stood_polled o x v w n k s c e = stood_closing o.method o x v w n k s c e
