-- Good replies that the rules pass exist for every order that passes 8, 9 and the lead-out limit, on every disc that passes 5 and 6:
-- the drive starts each track 152 blocks after the last one ends, and just what is needed is free; the first round of each polling is its last.
use mathlib.Core.Path.{◌≡◌, refl, sym, ap, subst, ◌∙◌}
use mathlib.Core.Bool.{Bool, true, false, not, ◌&&◌, ◌||◌}
use mathlib.Core.List.{List, [], ◌∷◌, ◌++◌}
use Prim.Native.Nat.{ℕ, zero, suc, ◌+◌, ◌-◌, ◌*◌, ◌/◌, ◌%◌, ◌≤◌, ◌<◌, max}
use native.Mathlib.Omega.{arith}
use borrow.Author.Tests.{le-ltb, lt-ltb, le-leb, ltb-false, eqb-true, not-false}
use lib.Dec.{ltb, eqb, lit<, lit≤}
use lib.ListN.{length, drop, replicate, length-append, length-drop}
use Rattle.basics.specs.Bytes.{if, be32}
use Rattle.mmc.specs.Refusals.{pass}
use Rattle.mmc.specs.Order.{tracks_in, blocks_of}
use Rattle.mmc.specs.Times.{lead_frames, frames_to}
use Rattle.mmc.specs.ReplyBlock.{Reply, reply_of}
use Rattle.mmc.specs.declared.units.FrameCount.{FrameCount}
use Rattle.mmc.specs.declared.units.TrackNumber.{TrackNumber}
use Rattle.mmc.specs.declared.order.Order.{Order}
use Rattle.mmc.specs.declared.order.Track.{Track}
use Rattle.mmc.specs.declared.order.Method.{Method}
use Rattle.mmc.specs.declared.order.Method.TheVariants.{Tao, Sao}
use Rattle.mmc.specs.declared.order.Recipe.{Recipe}
use Rattle.mmc.specs.declared.order.Recipe.TheVariants.{Old, New}
use Rattle.recorder.specs.declared.script.Op.{Op}
use Rattle.recorder.specs.declared.script.Op.TheVariants.{GetConfiguration, ReadDiscInformation, ReadTrackInformation, ModeSelect, SendCueSheet, Write, SynchronizeCache, CloseTrack, CloseSession, Blank, TestUnitReady, RequestSense}
use Rattle.std.specs.declared.option.Option.{Option}
use Rattle.std.specs.declared.option.Option.TheVariants.{Some, None}
use Rattle.recorder.specs.declared.job.Poll.{Poll}
use Rattle.recorder.specs.declared.job.Poll.TheVariants.{Off, Ready, Sense}
use Rattle.recorder.specs.declared.replies.DiscInformation.{DiscInformation}
use Rattle.recorder.specs.declared.replies.TrackInformation.{TrackInformation}
use Rattle.recorder.specs.declared.replies.Reading.{Reading}
use Rattle.recorder.specs.declared.replies.Reading.TheVariants.{Malformed, Profile, Disc, Information, ProgressIndication, Unread}
use Rattle.recorder.specs.declared.exchanges.Seen.{Seen}
use Rattle.recorder.specs.Answers.{Ruling}
use Rattle.recorder.specs.Replies.{whole_profile, read_profile, whole_disc, disc_of, read_disc, whole_information, information_of, read_information, progress_of, read_progress, reading}
use Rattle.recorder.specs.Script.{close_by, code, track_in, is_erasing, takes_immed, is_polled, gather, write, portion, writes_for, writes, writes_from, each_track, blocks, blocks_from, blocks_in, script}
use Rattle.recorder.specs.Exchanges.{Exchange, Named, see, seen, name, named}
use Rattle.recorder.specs.Rules.{other_profile, last_status, unsuitable, unusable, to_come, still, charge, needed, lead_out, last_frame, fits, too_long, used, not_erasable, tested, erasing_tests, blank_tests, disc_tests, erases, erasing_if, opening_tests, later_tests, Judgement, onward, track_tests, polls_if, judge, judged, move, left, none, refused_by, first_refused, ruled, exchanged, play}
use Rattle.recorder.specs.Places.{piece_ended, before_block, after_track, op_after, piece_of, after_in}
use Rattle.recorder.specs.Job.{due_at}
use Rattle.recorder.specs.History.{informations_in, informations, drive_gap, Follows, AllMarkedGood, Bytes, AllBytes, discs_in, discs, Passing, Recordable, Suitable}
use Rattle.std.proofs.lemmas.Bool.{and_parts, false≢true, or_parts}
use Rattle.recorder.proofs.Lists.{if_yes, if_no, Clear, clear_passes, nothing_after, blocks_length}
use Rattle.recorder.proofs.Turns.{made, Played, played, is_asking, Reads, busy, not_ready_lem, failed, malformed, profile, status, information, indication, ready, unread, reads, profile_seen, erased_seen}
use Rattle.recorder.proofs.Scripts.{by, each_blocks}
use Rattle.recorder.proofs.Rulings.{refused_next, ruled_at}
use Rattle.recorder.proofs.Audio.{audio_clear}
use Rattle.recorder.proofs.Behind.{Sized, tracks_from, behind, onto, next_track_lem, goes_on}
use Rattle.recorder.proofs.Standing.{blocks_after, fits_within, Standing, StandingThen, standing_closing, stood, stood_polled}
use Rattle.recorder.proofs.Charge.{needed_tao, needed_less, Due, Heard, heard}
use Rattle.recorder.proofs.Moves.{plan_at, Stood, standing_goes, immed_at}

-- ---- the bytes of the replies

abbrev four_bytes : ℕ → List ℕ
four_bytes z = (z / 256 / 256 / 256) % 256 ∷ (z / 256 / 256) % 256 ∷ (z / 256) % 256 ∷ z % 256 ∷ []

-- whole for 46h, 51h and 52h alike: a disc status, byte 7, an address and free blocks
abbrev naming : ℕ → ℕ → ℕ → ℕ → List ℕ
naming c q a f = 0 ∷ 32 ∷ q ∷ 0 ∷ 0 ∷ 0 ∷ 0 ∷ c ∷ 0 ∷ 0 ∷ 0 ∷ 0 ∷ (four_bytes a ++ (four_bytes f ++ replicate 14 0))

-- a list of bytes
data Low : List ℕ → Type 0 where
  empty : Low []
  more : {x : ℕ} {l : List ℕ} → x < 256 → Low l → Low (x ∷ l)

low_bytes : {l : List ℕ} → Low l → Bytes l
low_bytes empty k = lit< tt
low_bytes (more h b) zero = h
low_bytes (more h b) (suc k) = low_bytes b k

low_zeros : (n : ℕ) → Low (replicate n 0)
low_zeros zero = empty
low_zeros (suc n) = more (lit< tt) (low_zeros n)

rest_below : (z : ℕ) → z % 256 < 256
rest_below z = omega arith

low_four : (z : ℕ) {l : List ℕ} → Low l → Low (four_bytes z ++ l)
low_four z b = more (rest_below (z / 256 / 256 / 256)) (more (rest_below (z / 256 / 256)) (more (rest_below (z / 256)) (more (rest_below z) b)))

zero_then : {l : List ℕ} → Low l → Low (0 ∷ l)
zero_then b = more (lit< tt) b

naming_bytes : (c q a f : ℕ) → c < 256 → q < 256 → Bytes (naming c q a f)
naming_bytes c q a f h k =
    low_bytes
    (zero_then (more (lit< tt) (more k (zero_then (zero_then (zero_then (zero_then (more h (zero_then (zero_then (zero_then (zero_then (low_four a (low_four f (low_zeros 14)))))))))))))))

module _ (c q a f : ℕ) where
  abbrev d : List ℕ
  d = naming c q a f

  named_profile : read_profile d ≡ Profile c
  unfolding read_profile whole_profile be32
  named_profile =
      let e : 0 * 256 + c ≡ c = omega arith in
      let h : 4 ≤ be32 d = omega arith in
      if_yes _ _ (le-leb _ _ h) ∙ ap Profile e

  named_disc : (k : ℕ) (b : Bool) → k ≤ 3 → q ≡ k + if b 16 0 → read_disc d ≡ Disc (record { status = k; erasable = b })
  unfolding read_disc whole_disc disc_of
  named_disc k b h e =
      let y : q % 4 ≡ k = status_in k b h e in
      let x : eqb (q / 16 % 2) 1 ≡ b = bit_in k b h e in
      let w : q / 32 ≡ 0 = small k b h e in
      ap (λ (n : ℕ). if (eqb n 0) (Disc (record { status = q % 4; erasable = eqb (q / 16 % 2) 1 })) Malformed) w ∙
      ap (λ (n : ℕ). Disc (record { status = n; erasable = eqb (q / 16 % 2) 1 })) y ∙
      ap (λ (c : Bool). Disc (record { status = k; erasable = c })) x
    where
      status_in : (k : ℕ) (b : Bool) → k ≤ 3 → q ≡ k + if b 16 0 → q % 4 ≡ k
      status_in k true h e = omega arith
      status_in k false h e = omega arith

      small : (k : ℕ) (b : Bool) → k ≤ 3 → q ≡ k + if b 16 0 → q / 32 ≡ 0
      small k true h e = omega arith
      small k false h e = omega arith

      bit_in : (k : ℕ) (b : Bool) → k ≤ 3 → q ≡ k + if b 16 0 → eqb (q / 16 % 2) 1 ≡ b
      bit_in k true h e = let w : q / 16 % 2 ≡ 1 = omega arith in ap (λ (n : ℕ). eqb n 1) w
      bit_in k false h e = let w : q / 16 % 2 ≡ 0 = omega arith in ap (λ (n : ℕ). eqb n 1) w

  named_whole : read_information d ≡ Information (information_of d)
  unfolding read_information whole_information
  named_whole = refl

  named_start : a < 4294967296 → (frames_to (information_of d).address).0 ≡ a + lead_frames
  unfolding frames_to information_of be32
  named_start h = let e : be32 (drop 12 d) ≡ a = omega arith in ap (λ (x : ℕ). x + lead_frames) e

  named_free : f < 4294967296 → (information_of d).free.0 ≡ f
  unfolding information_of be32
  named_free h = omega arith

-- ---- what is still ahead, in blocks

from_length : (t : ℕ) (xs : List Track) → length (blocks_from t xs) ≡ blocks_of xs
unfolding blocks_of
from_length t [] = refl
from_length t (x ∷ xs) =
    let a = length-append (blocks (suc t) 0 x.length.0) (blocks_from (suc t) xs) in
    let b = blocks_length (suc t) 0 x.length.0 in
    let i = from_length (suc t) xs in
    omega arith

abbrev ahead : List Op → ℕ
ahead l = length (gather blocks_in l)

tracks_ahead : (o : Order) (t : ℕ) → ahead (tracks_from o t) ≡ blocks_after o t
tracks_ahead o t = ap length (each_blocks o.method o t (drop t (tracks_in o))) ∙ from_length t (drop t (tracks_in o))

-- at a 52h in TAO: the tracks from its own on
track_ahead : (o : Order) (t : ℕ) → 1 ≤ t → t ≤ o.count → length (tracks_in o) ≡ o.count → ahead (ReadTrackInformation (record { 0 = t }) ∷ behind (by o Tao) (ReadTrackInformation (record { 0 = t }))) ≡ still o t
track_ahead o zero h l n = absurd (omega arith)
track_ahead o (suc t) h l n =
    let k : t ≡ suc t - 1 = omega arith in
    ap ahead (sym (next_track_lem (by o Tao) t (omega arith))) ∙ tracks_ahead (by o Tao) t ∙ ap (blocks_after o) k

-- the 52h of later tracks that are ahead: what lies between tracks is taken there
abbrev later_in : Op → List Op
later_in x = if (eqb (code x) 0x52 && ltb 1 (track_in x)) (x ∷ []) []

abbrev gaps : List Op → ℕ
gaps l = length (gather later_in l)

writes_gaps : (t l f k : ℕ) (m : List Op) → gaps (writes t l f k ++ m) ≡ gaps m
writes_gaps t l f zero m = refl
writes_gaps t l f (suc k) m = writes_gaps t l (f + portion l f) k m

close_gaps : (q : Recipe) (t : ℕ) (l : List Op) → gaps (close_by q t l) ≡ gaps l
close_gaps Old t l = refl
close_gaps New t l = refl

each_gaps : (o : Order) (t : ℕ) (xs : List Track) → gaps (each_track (by o Tao) (suc t) xs) ≡ length xs
each_gaps o t [] = refl
each_gaps o t (x ∷ xs) = ap (λ (b : Bool). length (if b (ReadTrackInformation u ∷ []) [] ++ gather later_in (writes_from u.0 x.length.0 0 ++ rest))) (lt-ltb 1 u.0 (omega arith)) ∙ ap suc (writes_gaps u.0 x.length.0 0 (writes_for (x.length.0 - 0)) rest ∙ close_gaps o.recipe u.0 _ ∙ each_gaps o (suc t) xs)
  where
    u : TrackNumber
    u = record { 0 = suc (suc t) }

    rest : List Op
    rest = SynchronizeCache u ∷ close_by o.recipe u.0 (each_track (by o Tao) (suc (suc t)) xs)

-- behind a 52h in TAO
behind_gaps : (o : Order) (t : ℕ) → gaps (behind (by o Tao) (ReadTrackInformation (record { 0 = suc t }))) ≡ length (to_come o (suc t)) - 1
behind_gaps o t =
    let a = length-drop (suc t - 1) (tracks_in o) in
    let b = length-drop (suc t) (tracks_in o) in
    let k : length (drop (suc t) (tracks_in o)) ≡ length (to_come o (suc t)) - 1 = omega arith in
    writes_gaps (suc t) (piece_of o (suc t)) 0 (writes_for (piece_of o (suc t) - 0)) (SynchronizeCache (record { 0 = suc t }) ∷ close_by o.recipe (suc t) (tracks_from (by o Tao) (suc t))) ∙
    close_gaps o.recipe (suc t) _ ∙
    each_gaps o t (drop (suc t) (tracks_in o)) ∙
    k

-- from no track on more is needed than from the first
drop_less : (k : ℕ) (xs : List Track) → blocks_of (drop k xs) ≤ blocks_of xs
unfolding blocks_of
drop_less zero xs = omega arith
drop_less (suc k) [] = omega arith
drop_less (suc k) (x ∷ xs) = let i = drop_less k xs in omega arith

charge_less : (m : Method) (a b : ℕ) → a ≤ b → charge m a ≤ charge m b
charge_less Tao a b h = omega arith
charge_less Sao a b h = omega arith

needed_most : (o : Order) (t : ℕ) → needed o t ≤ needed o 1
needed_most o t =
    let a = length-drop (t - 1) (tracks_in o) in
    let b = drop_less (t - 1) (tracks_in o) in
    let c = charge_less o.method (length (to_come o t)) (length (to_come o 1)) (omega arith) in
    omega arith

-- all that is taken ahead, blocks and what lies between tracks
abbrev space : List Op → ℕ
space l = ahead l + drive_gap * gaps l

-- from the track t on
abbrev space_from : Order → ℕ → ℕ
space_from o t = blocks_of (to_come o t) + charge Tao (length (to_come o t))

track_space : (o : Order) (t : ℕ) → 1 ≤ t → t ≤ o.count → length (tracks_in o) ≡ o.count → space (behind (by o Tao) (ReadTrackInformation (record { 0 = t }))) ≡ space_from o t
track_space o zero h l n = absurd (omega arith)
track_space o (suc t) h l n = let a = track_ahead o (suc t) h l n in let b = behind_gaps o t in omega arith

space_more : (t : TrackNumber) (l : List Op) → space l ≤ space (ReadTrackInformation t ∷ l)
space_more t l = go (ltb 1 t.0)
  where
    go : (b : Bool) → space l ≤ ahead l + drive_gap * length (if b (ReadTrackInformation t ∷ []) [] ++ gather later_in l)
    go true = omega arith
    go false = omega arith

-- room for what is ahead, the first track at address 0
abbrev RoomBy : Method → Order → FrameCount → List Op → Type 0
RoomBy Tao o at l = max at.0 lead_frames + space l ≤ lead_frames + space_from o 1
RoomBy Sao o at l = Unit {0}

-- an operation that stands takes off what it puts
write_ahead : (t : ℕ) (f k : ℕ) (l : List Op) → 1 ≤ t → ahead (write t f k ∷ l) ≡ k + ahead l
write_ahead zero f k l h = absurd (omega arith)
write_ahead (suc t) f k l h = let a = length-append (blocks (suc t) f k) (gather blocks_in l) in let b = blocks_length (suc t) f k in omega arith

room_on : (o : Order) (x : Op) (v : Seen) (n : Named) → Standing Tao (by o Tao) x v n → RoomBy Tao o v.at (x ∷ behind (by o Tao) x) → is_asking x ≡ false → RoomBy Tao o (see Tao x Unread v).at (behind (by o Tao) x)
room_on o GetConfiguration v n s r q = absurd (false≢true (sym q))
room_on o ReadDiscInformation v n s r q = absurd (false≢true (sym q))
room_on o (ReadTrackInformation t) v n s r q = absurd (false≢true (sym q))
room_on o (ModeSelect t) v n s r q = r
room_on o SendCueSheet v n s r q = absurd s
room_on o (Write t f c) v n s r q =
    let h = s.0.in_order.one in
    let e = write_ahead t.0 f.0 c.0 (behind (by o Tao) (Write t f c)) h in
    omega arith
room_on o (SynchronizeCache t) v n s r q = r
room_on o (CloseTrack t) v n s r q = r
room_on o CloseSession v n s r q = r
room_on o Blank v n s r q = r
room_on o TestUnitReady v n s r q = absurd s
room_on o RequestSense v n s r q = absurd s

-- ---- what comes next is never A1h: only the first 51h puts it in front

abbrev NotErasing : Option Op → Type 0
NotErasing (Some x) = is_erasing x ≡ false
NotErasing None = Unit {0}

block_plain : (m : Method) (n l k t f : ℕ) → is_erasing (before_block m n l k t f) ≡ false
unfolding before_block piece_ended
block_plain m n l k t f = go (ltb f l)
  where
    over : (m : Method) → is_erasing (piece_ended m n k t) ≡ false
    over Tao = refl
    over Sao = by_track (ltb t n)
      where
        by_track : (b : Bool) → is_erasing (if b (write (suc t) 0 (portion k 0)) (SynchronizeCache (record { 0 = t }))) ≡ false
        by_track true = refl
        by_track false = refl

    go : (b : Bool) → is_erasing (if b (write t f (portion l f)) (piece_ended m n k t)) ≡ false
    go true = refl
    go false = over m

track_plain : (n t : ℕ) → is_erasing (after_track n t) ≡ false
unfolding after_track
track_plain n t = go (ltb t n)
  where
    go : (b : Bool) → is_erasing (if b (ReadTrackInformation (record { 0 = suc t })) CloseSession) ≡ false
    go true = refl
    go false = refl

after_plain : (m : Method) (u : Recipe) (n l k : ℕ) (x : Op) → NotErasing (op_after m u n l k x)
after_plain m u n l k GetConfiguration = refl
after_plain m u n l k ReadDiscInformation = refl
after_plain m u n l k (ReadTrackInformation t) = refl
after_plain Tao u n l k (ModeSelect t) = block_plain Tao n l k t.0 0
after_plain Sao u n l k (ModeSelect t) = refl
after_plain m u n l k SendCueSheet = block_plain m n l k 0 0
after_plain m u n l k (Write t f c) = block_plain m n l k t.0 (f.0 + c.0)
after_plain Tao Old n l k (SynchronizeCache t) = refl
after_plain Tao New n l k (SynchronizeCache t) = track_plain n t.0
after_plain Sao u n l k (SynchronizeCache t) = tt
after_plain m u n l k (CloseTrack t) = track_plain n t.0
after_plain m u n l k CloseSession = tt
after_plain m u n l k Blank = refl
after_plain m u n l k TestUnitReady = tt
after_plain m u n l k RequestSense = tt

module _ (o : Order) (z : Sized o) (ok : Recordable o) (p : ℕ) (d : DiscInformation) (su : Suitable o p d) where
  low_profile : p < 256
  unfolding other_profile
  low_profile = go (eqb p 0x0009) refl su.profile_so
    where
      go : (b : Bool) → eqb p 0x0009 ≡ b → not b && not (eqb p 0x000A) ≡ false → p < 256
      go true e h = let k : p ≡ 9 = eqb-true _ _ e in omega arith
      go false e h = let k : p ≡ 10 = eqb-true _ _ (not-false _ h) in omega arith

  -- with the flag and without
  erasable_so : o.erase ≡ true → (ltb 2 d.status ≡ false) × (not_erasable p d ≡ false)
  erasable_so e = or_parts (ltb 2 d.status) (not_erasable p d) (ap (λ (b : Bool). if b (ltb 2 d.status || not_erasable p d) (unsuitable o.method d.status)) (sym e) ∙ su.disc_so)

  suitable_so : o.erase ≡ false → unsuitable o.method d.status ≡ false
  suitable_so e = ap (λ (b : Bool). if b (ltb 2 d.status || not_erasable p d) (unsuitable o.method d.status)) (sym e) ∙ su.disc_so

  low_status : d.status ≤ 3
  unfolding unsuitable
  low_status = go o.erase refl
    where
      by_method : (m : Method) → d.status ≤ last_status m → d.status ≤ 3
      by_method Tao h = omega arith
      by_method Sao h = omega arith

      go : (b : Bool) → o.erase ≡ b → d.status ≤ 3
      go true e = let h : d.status ≤ 2 = ltb-false _ _ (erasable_so e).0 in omega arith
      go false e = by_method o.method (ltb-false _ _ (suitable_so e))

  -- an erasing takes place
  abbrev wipes : Bool
  wipes = o.erase && used d.status

  -- what 51h is told of the disc, and byte 2 of the reply
  abbrev discFor : Bool → DiscInformation
  discFor was = if was (record { status = 0; erasable = false }) d

  abbrev secondBy : Bool → ℕ
  secondBy was = if was 0 (d.status + if d.erasable 16 0)

  abbrev second : Seen → ℕ
  second v = secondBy v.erased

  low_second : (b : Bool) → secondBy b < 256
  low_second true = lit< tt
  low_second false = go d.erasable
    where
      go : (b : Bool) → d.status + if b 16 0 < 256
      go true = let h = low_status in omega arith
      go false = let h = low_status in omega arith

  -- all that is needed, and what was taken before the track t
  abbrev all : ℕ
  all = needed o 1

  abbrev taken : ℕ → ℕ
  taken t = all - needed o t

  low_taken : (t : ℕ) → taken t < 4294967296
  low_taken t = let e = ok.ends in omega arith

  -- 46h is told the profile; bit 0 of the same byte is NWA_V
  abbrev seventh : Op → ℕ
  seventh x = if (eqb (code x) 0x46) p 9

  -- 03h is told that there is no progress
  abbrev told : Op → Seen → List ℕ
  told x v = if (eqb (code x) 0x03) (replicate 18 0) (naming (seventh x) (second v) (taken (track_in x)) (needed o (track_in x)))

  abbrev replyTo : Op → Seen → Reply
  replyTo x v = reply_of true (told x v)

  told_bytes : (x : Op) (v : Seen) → Bytes (told x v)
  told_bytes x v = by_code (eqb (code x) 0x03)
    where
      go : (b : Bool) → if b p 9 < 256
      go true = low_profile
      go false = lit< tt

      by_code : (b : Bool) → Bytes (if b (replicate 18 0) (naming (seventh x) (second v) (taken (track_in x)) (needed o (track_in x))))
      by_code true = low_bytes (low_zeros 18)
      by_code false = naming_bytes (seventh x) (second v) (taken (track_in x)) (needed o (track_in x)) (go (eqb (code x) 0x46)) (low_second v.erased)

  -- ---- the tests of a 52h

  abbrev informed : ℕ → ℕ → TrackInformation
  informed q t = information_of (naming 9 q (taken t) (needed o t))

  usable_so : (m : Method) (q t : ℕ) (at : FrameCount) → at.0 ≤ taken t + lead_frames → unusable m at (informed q t) ≡ false
  unfolding unusable information_of
  usable_so Tao q t at h =
      let s = named_start 9 q (taken t) (needed o t) (low_taken t) in
      let l : at.0 ≤ (frames_to (informed q t).address).0 = omega arith in
      le-ltb _ _ l
  usable_so Sao q t at h = refl

  fits_so : (m : Method) (q t : ℕ) → lead_out m (needed o t) (informed q t) ≤ last_frame → not (fits m (needed o t) (informed q t)) ≡ false
  fits_so m q t l =
      let e = ok.ends in
      let h = needed_most o t in
      let f = named_free 9 q (taken t) (needed o t) (omega arith) in
      fits_within m (needed o t) (informed q t) (omega arith) l

  -- what a 52h is told of the track t
  record Said (t : ℕ) (i : TrackInformation) : Type 0 where
    few : t ≤ o.count
    start : (frames_to i.address).0 + needed o t ≡ lead_frames + all
    free : i.free.0 ≡ needed o t

  said_so : (q t : ℕ) → t ≤ o.count → Said t (informed q t)
  said_so q t l =
      let e = ok.ends in
      let h = needed_most o t in
      let s = named_start 9 q (taken t) (needed o t) (low_taken t) in
      let f = named_free 9 q (taken t) (needed o t) (omega arith) in
      record { few = l; start = omega arith; free = f }

  -- all or some of the tests pass
  clear_by : (t : ℕ) (v : Seen) (i : TrackInformation) → v.profile ≡ p → (o.erase ≡ false → v.status ≡ d.status) → unusable o.method v.at i ≡ false → not (fits o.method (needed o t) i) ≡ false → Clear (track_tests o t v i)
  clear_by t v i a b u f = go (eqb t 1) o.erase refl
    where
      go : (c w : Bool) → o.erase ≡ w → Clear (if (c && not w) (opening_tests o t v i) (later_tests o t v i))
      go true false e = (ap other_profile a ∙ su.profile_so, (ap (unsuitable o.method) (b e) ∙ suitable_so e, (u, (audio_clear o ok.no_audio, (ok.alike, (ap not ok.long, (f, tt)))))))
      go true true e = (u, (f, tt))
      go false w e = (u, (f, tt))

  -- what a 52h needs is there, and it begins behind the last block
  record Here (m : Method) (t : ℕ) (v : Seen) : Type 0 where
    past : v.at.0 ≤ taken t + lead_frames
    ends : lead_out m (needed o t) (informed (second v) t) ≤ last_frame

  here : (m : Method) → o.method ≡ m → (t : TrackNumber) (v : Seen) (n : Named) → Standing m (by o m) (ReadTrackInformation t) v n → RoomBy m o v.at (ReadTrackInformation t ∷ behind (by o m) (ReadTrackInformation t)) → Here m t.0 v
  here Tao e t v n s r =
      let k = track_space o t.0 s.one s.few z.all in
      let g = space_more t (behind (by o Tao) (ReadTrackInformation t)) in
      let x = needed_tao o t.0 e in
      let y = needed_tao o 1 e in
      let w = ok.ends in
      let c = named_start 9 (second v) (taken t.0) (needed o t.0) (low_taken t.0) in
      record { past = omega arith; ends = omega arith }
  here Sao e t v n s r =
      let w = ok.ends in
      let g = s.1 in
      let k : needed o t.0 ≡ all = ap (needed o) s.0 in
      record { past = omega arith; ends = omega arith }

  clear_52 : (m : Method) → o.method ≡ m → (t : ℕ) (v : Seen) → Here m t v → v.profile ≡ p → (o.erase ≡ false → v.status ≡ d.status) → Clear (track_tests o t v (informed (second v) t))
  clear_52 m e t v h a b =
      clear_by t v (informed (second v) t) a b (ap (λ (x : Method). unusable x v.at (informed (second v) t)) e ∙ usable_so m (second v) t v.at h.past)
      (ap (λ (x : Method). not (fits x (needed o t) (informed (second v) t))) e ∙ fits_so m (second v) t h.ends)

  -- ---- the tests of a 51h

  early_clear : (v : Seen) → v.profile ≡ p → o.erase ≡ true → Clear (erasing_tests o v.profile d)
  unfolding too_long
  early_clear v a e =
      let n = ok.ends in
      let i = erasable_so e in
      (ap other_profile a ∙ su.profile_so, (i.0, (audio_clear o ok.no_audio, (ok.alike, (ap not ok.long, (le-ltb _ _ ok.ends, (ap (λ (k : ℕ). not_erasable k d) a ∙ i.1, tt)))))))

  -- the first one puts an erasing in front if one takes place, and the one after it nothing
  passes_51 : (v : Seen) → v.profile ≡ p → (b : Bool) → v.erased ≡ b → judge o v ReadDiscInformation (Disc (discFor b)) ≡ onward (erasing_if (not b && wipes))
  passes_51 v a b q = go o.erase b refl q
    where
      go : (w b : Bool) → o.erase ≡ w → v.erased ≡ b → tested (disc_tests w o v (discFor b)) (erasing_if (erases w v.erased (discFor b).status)) ≡ onward (erasing_if (not b && (w && used d.status)))
      go false true e f = refl
      go false false e f = refl
      go true true e f =
          ap (λ (c : Bool). tested (if c (blank_tests (discFor true)) (erasing_tests o v.profile (discFor true))) (erasing_if (not c && used 0))) f
      go true false e f =
          ap (λ (c : Bool). tested (if c (blank_tests d) (erasing_tests o v.profile d)) (erasing_if (not c && used d.status))) f ∙
          clear_passes (erasing_tests o v.profile d) (erasing_if (used d.status)) (early_clear v a e)

  reads_51 : (v : Seen) → read_disc (naming 9 (second v) (taken 0) (needed o 0)) ≡ Disc (discFor v.erased)
  reads_51 v = go v.erased
    where
      go : (b : Bool) → read_disc (naming 9 (secondBy b) (taken 0) (needed o 0)) ≡ Disc (discFor b)
      go true = named_disc 9 0 (taken 0) (needed o 0) 0 false (lit≤ tt) refl
      go false = named_disc 9 (secondBy false) (taken 0) (needed o 0) d.status d.erasable low_status refl

  -- ---- one reply more

  abbrev Discs : Type 0
  Discs = List DiscInformation

  -- what is known once the disc is as it shall be
  record Known (v : Seen) (ds : Discs) : Type 0 where
    profile_known : v.profile ≡ p
    status_known : o.erase ≡ false → v.status ≡ d.status
    erased_known : v.erased ≡ wipes
    discs_known : (more : Discs) × (ds ≡ d ∷ more)

  more_discs : (ds xs : Discs) → (more : Discs) × (ds ≡ d ∷ more) → (more : Discs) × (ds ++ xs ≡ d ∷ more)
  more_discs ds xs k = (k.0 ++ xs, ap (λ (l : Discs). l ++ xs) k.1)

  still_known : (v w : Seen) (ds : Discs) → w.profile ≡ v.profile → w.status ≡ v.status → w.erased ≡ v.erased → Known v ds → Known w (ds ++ [])
  still_known v w ds a b c k =
      record { profile_known = a ∙ k.profile_known; status_known = λ e. b ∙ k.status_known e; erased_known = c ∙ k.erased_known; discs_known = more_discs ds [] k.discs_known }

  -- a reply that passes, and what is known and ahead then
  record Told (x : Op) (v : Seen) (ds : Discs) (r : Reading) : Type 0 where
    passes : judge o v x r ≡ polls_if (is_polled o.immed x)
    knows : Known (see o.method x r v) (ds ++ discs_in r)
    room : RoomBy o.method o (see o.method x r v).at (behind o x)

  same_room : (m : Method) (at : FrameCount) (x : Op) (l : List Op) → space (x ∷ l) ≡ space l → RoomBy m o at (x ∷ l) → RoomBy m o at l
  same_room Tao at x l e r = omega arith
  same_room Sao at x l e r = tt

  erasing_room : (m : Method) (at : FrameCount) (l : List Op) → RoomBy m o at l → RoomBy m o at (Blank ∷ l)
  erasing_room Tao at l r = r
  erasing_room Sao at l r = tt

  -- after a 52h just what is needed is ahead
  start_room : (m : Method) → o.method ≡ m → (t : TrackNumber) (v : Seen) (n : Named) → Standing m (by o m) (ReadTrackInformation t) v n → RoomBy m o (see m (ReadTrackInformation t) (Information (informed (second v) t.0)) v).at (behind (by o m) (ReadTrackInformation t))
  start_room Tao e t v n s =
      let k = track_space o t.0 s.one s.few z.all in
      let x = needed_tao o t.0 e in
      let y = needed_tao o 1 e in
      let w = needed_most o t.0 in
      let c = named_start 9 (second v) (taken t.0) (needed o t.0) (low_taken t.0) in
      omega arith
  start_room Sao e t v n s = tt

  unread_room : (m : Method) (x : Op) (v : Seen) (n : Named) → Standing m (by o m) x v n → RoomBy m o v.at (x ∷ behind (by o m) x) → is_asking x ≡ false → RoomBy m o (see m x Unread v).at (behind (by o m) x)
  unread_room Tao x v n s r e = room_on o x v n s r e
  unread_room Sao x v n s r e = tt

  abbrev ToldBy : Op → Seen → Discs → Type 0
  ToldBy x v ds = Told x v ds (reading x (replyTo x v))

  told_unread : (x : Op) (v : Seen) (ds : Discs) (n : Named) → Standing o.method o x v n → is_erasing x ≡ false → Known v ds → RoomBy o.method o v.at (x ∷ behind o x) → is_asking x ≡ false → Told x v ds Unread
  told_unread x v ds n s i k r e =
      record {
        passes = refl;
        knows =
            record {
              profile_known = k.profile_known;
              status_known = k.status_known;
              erased_known = ap (λ (b : Bool). b || v.erased) i ∙ k.erased_known;
              discs_known = more_discs ds [] k.discs_known;
            };
        room = unread_room o.method x v n s r e;
      }

  told_51 : (v : Seen) (ds : Discs) → Known v ds → RoomBy o.method o v.at (ReadDiscInformation ∷ behind o ReadDiscInformation) → Told ReadDiscInformation v ds (Disc (discFor v.erased))
  told_51 v ds k r =
      record {
        passes = passes_51 v k.profile_known v.erased refl ∙ ap (λ (b : Bool). onward (erasing_if b)) (ap (λ (b : Bool). not b && wipes) k.erased_known ∙ once wipes);
        knows =
            record {
              profile_known = k.profile_known;
              status_known = λ e. ap (λ (b : Bool). (discFor b).status) (k.erased_known ∙ ap (λ (b : Bool). b && used d.status) e);
              erased_known = k.erased_known;
              discs_known = more_discs ds _ k.discs_known;
            };
        room = same_room o.method v.at ReadDiscInformation _ refl r;
      }
    where
      once : (b : Bool) → not b && b ≡ false
      once true = refl
      once false = refl

  told_next : (x : Op) (v : Seen) (ds : Discs) (n : Named) → Standing o.method o x v n → is_erasing x ≡ false → Known v ds → RoomBy o.method o v.at (x ∷ behind o x) → ToldBy x v ds
  told_next GetConfiguration v ds n s i k r =
      subst (Told GetConfiguration v ds) (sym (named_profile p (second v) (taken 0) (needed o 0)))
      (record {
        passes = refl;
        knows = record { profile_known = refl; status_known = k.status_known; erased_known = k.erased_known; discs_known = more_discs ds [] k.discs_known };
        room = same_room o.method v.at GetConfiguration _ refl r;
      })
  told_next ReadDiscInformation v ds n s i k r = subst (Told ReadDiscInformation v ds) (sym (reads_51 v)) (told_51 v ds k r)
  told_next (ReadTrackInformation t) v ds n s i k r =
      subst (Told (ReadTrackInformation t) v ds) (sym (named_whole 9 (second v) (taken t.0) (needed o t.0)))
      (record {
        passes = clear_passes (track_tests o t.0 v (informed (second v) t.0)) [] (clear_52 o.method refl t.0 v (here o.method refl t v n s r) k.profile_known k.status_known);
        knows = record { profile_known = k.profile_known; status_known = k.status_known; erased_known = k.erased_known; discs_known = more_discs ds [] k.discs_known };
        room = start_room o.method refl t v n s;
      })
  told_next (ModeSelect t) v ds n s i k r = told_unread (ModeSelect t) v ds n s i k r refl
  told_next SendCueSheet v ds n s i k r = told_unread SendCueSheet v ds n s i k r refl
  told_next (Write t f c) v ds n s i k r = told_unread (Write t f c) v ds n s i k r refl
  told_next (SynchronizeCache t) v ds n s i k r = told_unread (SynchronizeCache t) v ds n s i k r refl
  told_next (CloseTrack t) v ds n s i k r = told_unread (CloseTrack t) v ds n s i k r refl
  told_next CloseSession v ds n s i k r = told_unread CloseSession v ds n s i k r refl
  told_next Blank v ds n s i k r = absurd (false≢true (sym i))
  told_next TestUnitReady v ds n s i k r = absurd s
  told_next RequestSense v ds n s i k r = absurd s

  -- ---- the exchanges that such replies lead to

  -- while a polling is under way the operation that it polls is already off
  abbrev RoomAt : Poll → Op → FrameCount → Type 0
  RoomAt Off x at = RoomBy o.method o at (x ∷ behind o x)
  RoomAt Ready x at = RoomBy o.method o at (behind o x)
  RoomAt Sense x at = RoomBy o.method o at (behind o x)

  abbrev KnownAt : Poll → Seen → Discs → Type 0
  KnownAt Off v ds = Known v ds
  KnownAt Ready v ds = Known v ds
  KnownAt Sense v ds = Known v ds × (v.ready ≡ true)

  -- the replies that are still to come, if each polling takes one round
  abbrev weight : Op → ℕ
  weight x = if (is_polled o.immed x) 3 1

  abbrev weigh : List Op → ℕ
  weigh [] = 0
  weigh (x ∷ l) = weight x + weigh l

  -- and those for an erasing before it is put in front
  abbrev wiping : ℕ
  wiping = if wipes (weight Blank + 1) 0

  -- before 46h, before the first 51h, before an A1h, and from then on; with c replies still to come
  data Stage (c : ℕ) (l : List Op) (v : Seen) (n : Named) (ds : Discs) : Type 0 where
    at_first : l ≡ plan_at o GetConfiguration Off → Standing o.method o GetConfiguration v n → v.erased ≡ false → ds ≡ [] → RoomAt Off GetConfiguration v.at → c ≡ weigh l + wiping → Stage c l v n ds
    at_disc : l ≡ plan_at o ReadDiscInformation Off → Standing o.method o ReadDiscInformation v n → v.profile ≡ p → v.erased ≡ false → ds ≡ [] → RoomAt Off ReadDiscInformation v.at → c ≡ weigh l + wiping → Stage c l v n ds
    at_erasing : l ≡ plan_at o Blank Off → Standing o.method o Blank v n → v.profile ≡ p → wipes ≡ true → ds ≡ d ∷ [] → RoomAt Off Blank v.at → c ≡ weigh l → Stage c l v n ds
    at_op : (x : Op) (p : Poll) → l ≡ plan_at o x p → Stood o x p v n → is_erasing (due_at x p) ≡ false → KnownAt p v ds → RoomAt p x v.at → c ≡ weigh l → Stage c l v n ds
    over : l ≡ [] → Known v ds → c ≡ 0 → Stage c l v n ds

  record Packed (c : ℕ) (es : List Exchange) : Type 0 where
    unrefused : first_refused o es ≡ none
    stage : Stage c (left o es) (seen o.method es) (named es) (discs es)

  abbrev replyFor : List Op → Seen → Reply
  replyFor [] v = replyTo GetConfiguration v
  replyFor (x ∷ l) v = replyTo x v

  abbrev reply : List Exchange → Reply
  reply es = replyFor (left o es) (seen o.method es)

  -- to the operation behind one, or to the end
  behind_stage : (x : Op) (v w : Seen) (n k : Named) (ds : Discs) → Standing o.method o x v n → StandingThen o.method o (after_in o x) w k → Known w ds → RoomBy o.method o w.at (behind o x) → Stage (weigh (behind o x)) (behind o x) w k ds
  behind_stage x v w n k ds s h b r = go (after_in o x) refl h (after_plain o.method o.recipe o.count _ _ x)
    where
      on : (a : Option Op) → after_in o x ≡ a → behind o x ≡ onto o a
      on a e = goes_on o x z (standing_goes o.method o x v n z s) ∙ ap (onto o) e

      go : (a : Option Op) → after_in o x ≡ a → StandingThen o.method o (after_in o x) w k → NotErasing (after_in o x) → Stage (weigh (behind o x)) (behind o x) w k ds
      go (Some y) e h i =
          at_op y Off (on (Some y) e) (record { standing = subst (λ (a : Option Op). StandingThen o.method o a w k) e h; polled_at = tt }) (subst NotErasing e i) b
          (subst (λ (l : List Op). RoomBy o.method o w.at l) (on (Some y) e) r) refl
      go None e h i = over (on None e) b (ap weigh (on None e))

  -- what a reply leads to: a judgement that refuses nothing, and one reply less to come
  record Led (c : ℕ) (l : List Op) (j : Judgement) (w : Seen) (k : Named) (ds : Discs) : Type 0 where
    unrefusing : refused_by j ≡ none
    stage : Stage (c - 1) (move j l) w k ds

  fewer : (c b : ℕ) (l : List Op) (w : Seen) (k : Named) (ds : Discs) → c ≡ 1 + b → Stage b l w k ds → Stage (c - 1) l w k ds
  fewer c b l w k ds e s = let q : b ≡ c - 1 = omega arith in subst (λ (i : ℕ). Stage i l w k ds) q s

  -- where the next block goes stays where an operation takes Immed
  immed_kept : (m : Method) (x : Op) (r : Reading) (v : Seen) → takes_immed x ≡ true → Reads x true r → (see m x r v).at.0 ≡ v.at.0
  immed_kept m x r v c (malformed a) = refl
  immed_kept m x r v c profile = refl
  immed_kept m x r v c status = refl
  immed_kept m x r v c information = absurd (false≢true c)
  immed_kept m x r v c indication = refl
  immed_kept m x r v c ready = refl
  immed_kept m x r v c (unread q i) = immed_at x v c

  -- an operation is answered
  led_off : (x : Op) (v : Seen) (n : Named) (ds : Discs) (r : Reading) → Standing o.method o x v n → Reads x true r → Told x v ds r → Led (weigh (x ∷ behind o x)) (x ∷ behind o x) (judge o v x r) (see o.method x r v) (name x r n) (ds ++ discs_in r)
  led_off x v n ds r s w t = subst (λ (j : Judgement). Led (weigh (x ∷ behind o x)) (x ∷ behind o x) j (see o.method x r v) (name x r n) (ds ++ discs_in r)) (sym t.passes) (go (is_polled o.immed x) refl)
    where
      go : (b : Bool) → is_polled o.immed x ≡ b → Led (weigh (x ∷ behind o x)) (x ∷ behind o x) (polls_if b) (see o.method x r v) (name x r n) (ds ++ discs_in r)
      go true q =
          let c : takes_immed x ≡ true = (and_parts (takes_immed x) _ q).0 in
          let g : weight x ≡ 3 = if_yes _ _ q in
          record {
            unrefusing = refl;
            stage =
                fewer _ (weigh (TestUnitReady ∷ RequestSense ∷ behind o x)) _ _ _ _ (omega arith)
                (at_op x Ready refl (record { standing = standing_closing o.method o x v _ n _ s c (immed_kept o.method x r v c w); polled_at = q }) refl t.knows t.room refl);
          }
      go false q =
          let g : weight x ≡ 1 = if_no _ _ q in
          record {
            unrefusing = refl;
            stage = fewer _ (weigh (behind o x)) _ _ _ _ (omega arith) (behind_stage x v _ n _ _ s (stood o x r v n z (λ i e. ok) s w (ap refused_by t.passes)) t.knows t.room);
          }

  -- so is 00h
  led_ready : (x : Op) (v : Seen) (n : Named) (ds : Discs) → Standing o.method o x v n → is_polled o.immed x ≡ true → Known v ds → RoomBy o.method o v.at (behind o x) → Led (weigh (plan_at o x Ready)) (plan_at o x Ready) (judge o v TestUnitReady Unread) (see o.method TestUnitReady Unread v) n (ds ++ [])
  led_ready x v n ds s c b r =
      record {
        unrefusing = refl;
        stage =
            fewer _ (weigh (plan_at o x Sense)) _ _ _ _ (omega arith)
            (at_op x Sense refl (record { standing = standing_closing o.method o x v _ n n s (and_parts (takes_immed x) _ c).0 refl; polled_at = c }) refl (still_known v _ ds refl refl refl b, refl) r refl);
      }

  -- and 03h
  led_sense : (x : Op) (v : Seen) (n : Named) (ds : Discs) → Standing o.method o x v n → is_polled o.immed x ≡ true → Known v ds → v.ready ≡ true → RoomBy o.method o v.at (behind o x) → Led (weigh (plan_at o x Sense)) (plan_at o x Sense) (judge o v RequestSense (ProgressIndication 0)) (see o.method RequestSense (ProgressIndication 0) v) n (ds ++ [])
  led_sense x v n ds s c b f r = subst (λ (j : Judgement). Led (weigh (plan_at o x Sense)) (plan_at o x Sense) j (see o.method RequestSense (ProgressIndication 0) v) n (ds ++ [])) (sym last) ended
    where
      last : judge o v RequestSense (ProgressIndication 0) ≡ onward []
      last = ap (λ (y : Bool). polls_if (not (y && eqb 0 0))) f

      ended : Led (weigh (plan_at o x Sense)) (plan_at o x Sense) (onward []) (see o.method RequestSense (ProgressIndication 0) v) n (ds ++ [])
      ended =
          record {
            unrefusing = refl;
            stage = fewer _ (weigh (behind o x)) _ _ _ _ (omega arith) (behind_stage x v _ n n _ s (stood_polled o x v _ n n s (and_parts (takes_immed x) _ c).0 refl) (still_known v _ ds refl refl refl b) r);
          }

  no_progress : (v : Seen) → reading RequestSense (replyTo RequestSense v) ≡ ProgressIndication 0
  unfolding read_progress progress_of
  no_progress v = refl

  -- what the reply to an operation that is due leads to, with c replies to come
  abbrev LedBy : ℕ → Op → Poll → Seen → Named → Discs → Reading → Type 0
  LedBy c x p v n ds r = Led c (plan_at o x p) (judge o v (due_at x p) r) (see o.method (due_at x p) r v) (name (due_at x p) r n) (ds ++ discs_in r)

  abbrev readingTo : Op → Seen → Reading
  readingTo x v = reading x (replyTo x v)

  led : (x : Op) (p : Poll) (v : Seen) (n : Named) (ds : Discs) → Stood o x p v n → is_erasing (due_at x p) ≡ false → KnownAt p v ds → RoomAt p x v.at → LedBy (weigh (plan_at o x p)) x p v n ds (readingTo (due_at x p) v)
  led x Off v n ds s i k r = led_off x v n ds (readingTo x v) s.standing (reads x (replyTo x v)) (told_next x v ds n s.standing i k r)
  led x Ready v n ds s i k r = led_ready x v n ds s.standing s.polled_at k r
  led x Sense v n ds s i k r = subst (LedBy (weigh (plan_at o x Sense)) x Sense v n ds) (sym (no_progress v)) (led_sense x v n ds s.standing s.polled_at k.0 k.1 r)

  -- 46h, and the first 51h
  led_first : (c : ℕ) (v : Seen) (n : Named) (ds : Discs) → Standing o.method o GetConfiguration v n → v.erased ≡ false → ds ≡ [] → RoomAt Off GetConfiguration v.at → c ≡ weigh (plan_at o GetConfiguration Off) + wiping → LedBy c GetConfiguration Off v n ds (readingTo GetConfiguration v)
  led_first c v n ds s e i r q =
      subst (LedBy c GetConfiguration Off v n ds) (sym (named_profile p (second v) (taken 0) (needed o 0)))
      (record {
        unrefusing = refl;
        stage = at_disc refl s refl e (ap (λ (l : Discs). l ++ []) i) (same_room o.method v.at GetConfiguration _ refl r) (omega arith);
      })

  led_disc : (c : ℕ) (v : Seen) (n : Named) (ds : Discs) → Standing o.method o ReadDiscInformation v n → v.profile ≡ p → v.erased ≡ false → ds ≡ [] → RoomAt Off ReadDiscInformation v.at → c ≡ weigh (plan_at o ReadDiscInformation Off) + wiping → LedBy c ReadDiscInformation Off v n ds (readingTo ReadDiscInformation v)
  led_disc c v n ds s a e i r q =
      subst (LedBy c ReadDiscInformation Off v n ds) (sym (reads_51 v ∙ ap (λ (b : Bool). Disc (discFor b)) e))
      (subst (λ (j : Judgement). Led c (plan_at o ReadDiscInformation Off) j (see o.method ReadDiscInformation (Disc d) v) n (ds ++ (d ∷ []))) (sym (passes_51 v a false e)) (go wipes refl))
    where
      w : Seen
      w = see o.method ReadDiscInformation (Disc d) v

      told : ds ++ (d ∷ []) ≡ d ∷ []
      told = ap (λ (l : Discs). l ++ (d ∷ [])) i

      room : RoomBy o.method o v.at (behind o ReadDiscInformation)
      room = same_room o.method v.at ReadDiscInformation _ refl r

      go : (b : Bool) → wipes ≡ b → Led c (plan_at o ReadDiscInformation Off) (onward (erasing_if b)) w n (ds ++ (d ∷ []))
      go true f =
          let g : wiping ≡ weight Blank + 1 = if_yes _ _ f in
          record { unrefusing = refl; stage = fewer c _ _ _ _ _ (omega arith) (at_erasing refl ((and_parts o.erase _ f).0, s) a f told (erasing_room o.method v.at _ r) refl) }
      go false f =
          let g : wiping ≡ 0 = if_no _ _ f in
          record {
            unrefusing = refl;
            stage =
                fewer c (weigh (behind o ReadDiscInformation)) _ _ _ _ (omega arith)
                (behind_stage ReadDiscInformation v w n n _ s (stood o ReadDiscInformation (Disc d) v n z (λ i e. ok) s status (ap refused_by (passes_51 v a false e)))
                (record { profile_known = a; status_known = λ h. refl; erased_known = e ∙ sym f; discs_known = ([], told) }) room);
          }

  -- A1h
  led_erasing : (v : Seen) (n : Named) (ds : Discs) → Standing o.method o Blank v n → v.profile ≡ p → wipes ≡ true → ds ≡ d ∷ [] → RoomAt Off Blank v.at → LedBy (weigh (plan_at o Blank Off)) Blank Off v n ds Unread
  led_erasing v n ds s a f i r =
      led_off Blank v n ds Unread s (unread refl refl)
      (record {
        passes = refl;
        knows =
            record {
              profile_known = a;
              status_known = λ h. absurd (false≢true (sym h ∙ (and_parts o.erase _ f).0));
              erased_known = sym f;
              discs_known = more_discs ds [] ([], i);
            };
        room = unread_room o.method Blank v n s r refl;
      })

  packed_turn : (c : ℕ) (es : List Exchange) → Packed c es → Packed (c - 1) (exchanged (ruled (pass o) es) (reply es) es)
  packed_turn c es i = go i.stage
    where
      v : Seen
      v = seen o.method es

      -- the reply to an operation that is due
      next : Op → List Exchange
      next x = made o es x (replyTo x v) ∷ es

      answered : (x : Op) (p : Poll) → left o es ≡ plan_at o x p → LedBy c x p v (named es) (discs es) (readingTo (due_at x p) v) → Packed (c - 1) (exchanged (ruled (pass o) es) (reply es) es)
      answered x p e t =
          subst (λ (a : Ruling). Packed (c - 1) (exchanged a (reply es) es)) (sym (ruled_at o es (plan_at o x p) i.unrefused e))
          (subst (λ (l : List Op). Packed (c - 1) (made o es (due_at x p) (replyFor l v) ∷ es)) (sym e)
          (record {
            unrefused = refused_next o es (made o es (due_at x p) (replyTo (due_at x p) v)) none i.unrefused t.unrefusing;
            stage =
                subst (λ (l : List Op). Stage (c - 1) (move (judged o es (made o es (due_at x p) (replyTo (due_at x p) v))) l) (seen o.method (next (due_at x p))) (named (next (due_at x p))) (discs (next (due_at x p)))) (sym e)
                t.stage;
          }))

      to_come_lem : (x : Op) (p : Poll) → left o es ≡ plan_at o x p → c ≡ weigh (left o es) → weigh (plan_at o x p) ≡ c
      to_come_lem x p e q = sym (ap weigh e) ∙ sym q

      go : Stage c (left o es) v (named es) (discs es) → Packed (c - 1) (exchanged (ruled (pass o) es) (reply es) es)
      go (at_first e s f j r q) = answered GetConfiguration Off e (led_first c v (named es) (discs es) s f j r (q ∙ ap (λ (l : List Op). weigh l + wiping) e))
      go (at_disc e s a f j r q) = answered ReadDiscInformation Off e (led_disc c v (named es) (discs es) s a f j r (q ∙ ap (λ (l : List Op). weigh l + wiping) e))
      go (at_erasing e s a f j r q) = answered Blank Off e (subst (λ (k : ℕ). LedBy k Blank Off v (named es) (discs es) Unread) (to_come_lem Blank Off e q) (led_erasing v (named es) (discs es) s a f j r))
      go (at_op x p e s n k r q) = answered x p e (subst (λ (k : ℕ). LedBy k x p v (named es) (discs es) (readingTo (due_at x p) v)) (to_come_lem x p e q) (led x p v (named es) (discs es) s n k r))
      go (over e b q) =
          let k : c ≡ c - 1 = omega arith in
          subst (λ (a : Ruling). Packed (c - 1) (exchanged a (reply es) es)) (sym (ruled_at o es [] i.unrefused e)) (subst (λ (m : ℕ). Packed m es) k i)

  -- ---- the replies, each after the rules' exchanges for those before it

  abbrev replies : ℕ → List Reply
  replies zero = []
  replies (suc k) = replies k ++ (reply (play (pass o) [] (replies k)) ∷ [])

  play_snoc : (rs : List Reply) (es : List Exchange) (y : Reply) → play (pass o) es (rs ++ (y ∷ [])) ≡ exchanged (ruled (pass o) (play (pass o) es rs)) y (play (pass o) es rs)
  play_snoc [] es y = refl
  play_snoc (x ∷ rs) es y = play_snoc rs (exchanged (ruled (pass o) es) x es) y

  bytes_snoc : (rs : List Reply) (y : Reply) → AllBytes rs → Bytes y.bytes → AllBytes (rs ++ (y ∷ []))
  bytes_snoc [] y h b = (b, tt)
  bytes_snoc (x ∷ rs) y h b = (h.0, bytes_snoc rs y h.1 b)

  marked_snoc : (rs : List Reply) (y : Reply) → AllMarkedGood rs → y.good ≡ true → AllMarkedGood (rs ++ (y ∷ []))
  marked_snoc [] y h b = (b, tt)
  marked_snoc (x ∷ rs) y h b = (h.0, marked_snoc rs y h.1 b)

  reply_bytes_lem : (l : List Op) (v : Seen) → Bytes (replyFor l v).bytes
  reply_bytes_lem [] v = told_bytes GetConfiguration v
  reply_bytes_lem (x ∷ l) v = told_bytes x v

  reply_good : (l : List Op) (v : Seen) → (replyFor l v).good ≡ true
  reply_good [] v = refl
  reply_good (x ∷ l) v = refl

  -- ---- each 52h is told what was taken and what is needed

  abbrev Says : ℕ → List TrackInformation → Type 0
  Says t [] = Unit {0}
  Says t (i ∷ is) = Said (suc t) i × Says (suc t) is

  says_snoc : (t : ℕ) (is : List TrackInformation) (i : TrackInformation) → Says t is → Said (suc (t + length is)) i → Says t (is ++ (i ∷ []))
  says_snoc t [] i s h = let e : suc (t + 0) ≡ suc t = omega arith in (subst (λ (k : ℕ). Said k i) e h, tt)
  says_snoc t (x ∷ is) i s h = let e : suc (t + suc (length is)) ≡ suc (suc t + length is) = omega arith in (s.0, says_snoc (suc t) is i s.1 (subst (λ (k : ℕ). Said k i) e h))

  says_spaced : o.method ≡ Tao → (t : ℕ) (before after : List TrackInformation) (i j : TrackInformation) → Says t (before ++ (i ∷ j ∷ after)) → Follows (piece_of o (suc (t + length before))) i j
  says_spaced e t [] after i j s =
      let h = needed_less o t e z.all s.1.0.few in
      let a = s.0 in
      let b = s.1.0 in
      let k : suc t ≡ suc (t + 0) = omega arith in
      subst (λ (k : ℕ). Follows (piece_of o k) i j) k (record { starts = omega arith; falls = omega arith })
  says_spaced e t (x ∷ before) after i j s =
      let k : suc (suc t + length before) ≡ suc (t + suc (length before)) = omega arith in
      subst (λ (k : ℕ). Follows (piece_of o k) i j) k (says_spaced e (suc t) before after i j s.1)

  -- nothing else is told so
  unsaid : (x : Op) (g : Bool) (r : Reading) → eqb (code x) 0x52 ≡ false → Reads x g r → informations_in r ≡ []
  unsaid x g r f (busy n) = refl
  unsaid x g r f not_ready_lem = refl
  unsaid x g r f failed = refl
  unsaid x g r f (malformed a) = refl
  unsaid x g r f profile = refl
  unsaid x g r f status = refl
  unsaid x g r f information = absurd (false≢true (sym f))
  unsaid x g r f indication = refl
  unsaid x g r f ready = refl
  unsaid x g r f (unread q n) = refl

  module _ (v : Seen) (is : List TrackInformation) (s : Says 0 is) where
    abbrev SaysOn : Op → Type 0
    SaysOn x = Says 0 (is ++ informations_in (readingTo x v))

    says_other : (x : Op) → eqb (code x) 0x52 ≡ false → SaysOn x
    says_other x f = subst (Says 0) (sym (nothing_after is (informations_in (readingTo x v)) (unsaid x true (readingTo x v) f (reads x (replyTo x v))))) s

    says_on : (x : Op) → Due o.count (length is) x → SaysOn x
    says_on GetConfiguration h = says_other GetConfiguration refl
    says_on ReadDiscInformation h = says_other ReadDiscInformation refl
    says_on (ReadTrackInformation t) h =
        let e = h.track refl in
        let k : t.0 ≡ suc (0 + length is) = e.0 ∙ omega arith in
        subst (λ (r : Reading). Says 0 (is ++ informations_in r)) (sym (named_whole 9 (second v) (taken t.0) (needed o t.0)))
        (says_snoc 0 is (informed (second v) t.0) s (subst (λ (m : ℕ). Said m (informed (second v) t.0)) k (said_so (second v) t.0 e.1)))
    says_on (ModeSelect t) h = says_other (ModeSelect t) refl
    says_on SendCueSheet h = says_other SendCueSheet refl
    says_on (Write t f k) h = says_other (Write t f k) refl
    says_on (SynchronizeCache t) h = says_other (SynchronizeCache t) refl
    says_on (CloseTrack t) h = says_other (CloseTrack t) refl
    says_on CloseSession h = says_other CloseSession refl
    says_on Blank h = says_other Blank refl
    says_on TestUnitReady h = says_other TestUnitReady refl
    says_on RequestSense h = says_other RequestSense refl

  says_turn : (es : List Exchange) → o.method ≡ Tao → Played o es → first_refused o es ≡ none → Says 0 (informations es) → Says 0 (informations (exchanged (ruled (pass o) es) (reply es) es))
  says_turn es e p u s = go (left o es) refl (heard o es e z.all p u)
    where
      v : Seen
      v = seen o.method es

      go : (l : List Op) → left o es ≡ l → Heard o l (informations es) → Says 0 (informations (exchanged (ruled (pass o) es) (replyFor l v) es))
      go [] q i = subst (λ (a : Ruling). Says 0 (informations (exchanged a (replyFor [] v) es))) (sym (ruled_at o es [] u q)) s
      go (x ∷ l) q i = subst (λ (a : Ruling). Says 0 (informations (exchanged a (replyTo x v) es))) (sym (ruled_at o es (x ∷ l) u q)) (says_on v (informations es) s x i.in_turn.0)

  abbrev total : ℕ
  total = weigh (script o) + wiping

  record Fine (k : ℕ) : Type 0 where
    all_bytes : AllBytes (replies k)
    marked : AllMarkedGood (replies k)
    packed : Packed (total - k) (play (pass o) [] (replies k))
    says : o.method ≡ Tao → Says 0 (informations (play (pass o) [] (replies k)))

  first_space : RoomBy Tao o (record { 0 = 0 }) (script (by o Tao))
  first_space =
      let h = z.some in
      let n = z.all in
      let e = next_track_lem (by o Tao) 0 (omega arith) in
      let k = track_space o 1 (omega arith) z.some z.all in
      subst (λ (l : List Op). lead_frames + space l ≤ lead_frames + space_from o 1) (sym e) (omega arith)

  first_room : (m : Method) → RoomBy m o (record { 0 = 0 }) (script (by o m))
  first_room Tao = first_space
  first_room Sao = tt

  fine : (k : ℕ) → Fine k
  fine zero =
      let e : total ≡ total - 0 = omega arith in
      record {
        all_bytes = tt;
        marked = tt;
        packed = subst (λ (c : ℕ). Packed c []) e (record { unrefused = refl; stage = at_first refl refl refl refl (first_room o.method) refl });
        says = λ q. tt;
      }
  fine (suc k) = more (fine k)
    where
      more : Fine k → Fine (suc k)
      more i =
          let es : List Exchange = play (pass o) [] (replies k) in
          let e : total - k - 1 ≡ total - suc k = omega arith in
          record {
            all_bytes = bytes_snoc (replies k) (reply es) i.all_bytes (reply_bytes_lem (left o es) (seen o.method es));
            marked = marked_snoc (replies k) (reply es) i.marked (reply_good (left o es) (seen o.method es));
            packed = subst (λ (c : ℕ). Packed c (play (pass o) [] (replies (suc k)))) e (subst (Packed (total - k - 1)) (sym (play_snoc (replies k) [] (reply es))) (packed_turn (total - k) es i.packed));
            says = λ q. subst (λ (l : List Exchange). Says 0 (informations l)) (sym (play_snoc (replies k) [] (reply es))) (says_turn es q (played o (replies k)) i.packed.unrefused (i.says q));
          }

  -- after them the job is done, so all is known
  some_weigh : (x : Op) (l : List Op) → 1 ≤ weigh (x ∷ l)
  some_weigh x l = go (is_polled o.immed x)
    where
      go : (b : Bool) → 1 ≤ if b 3 1 + weigh l
      go true = omega arith
      go false = omega arith

  not_yet : (c b : ℕ) (x : Op) (l m : List Op) → m ≡ x ∷ l → c ≡ 0 → c ≡ weigh m + b → ⊥
  not_yet c b x l m e n q = let w = some_weigh x l in let a = ap weigh e in omega arith

  at_last : (c : ℕ) (l : List Op) (v : Seen) (n : Named) (ds : Discs) → c ≡ 0 → Stage c l v n ds → (l ≡ []) × Known v ds
  at_last c l v n ds e (at_first f s g j r q) = absurd (not_yet c wiping _ _ l f e q)
  at_last c l v n ds e (at_disc f s a g j r q) = absurd (not_yet c wiping _ _ l f e q)
  at_last c l v n ds e (at_erasing f s a g j r q) = absurd (not_yet c 0 _ _ l f e (omega arith))
  at_last c l v n ds e (at_op x p f s j k r q) = absurd (not_yet c 0 _ _ l f e (omega arith))
  at_last c l v n ds e (over f b q) = (f, b)

  pub can_pass : (rs : List Reply) × Passing o p d rs
  can_pass =
      let i = fine total in
      let es : List Exchange = play (pass o) [] (replies total) in
      let n : total - total ≡ 0 = omega arith in
      let b = at_last (total - total) (left o es) (seen o.method es) (named es) (discs es) n i.packed.stage in (
        replies total,
        record {
          all_bytes = i.all_bytes;
          marked = i.marked;
          unrefused = i.packed.unrefused;
          enough = ruled_at o es [] i.packed.unrefused b.0;
          of_profile = sym (profile_seen o.method es) ∙ b.1.profile_known;
          of_disc = b.1.discs_known;
          erases_so = sym (erased_seen o.method es) ∙ b.1.erased_known;
          spaces =
              λ q before after x y e.
              let k : suc (0 + length before) ≡ suc (length before) = omega arith in subst (λ (m : ℕ). Follows (piece_of o m) x y) k (says_spaced q 0 before after x y (subst (Says 0) e (i.says q)));
        },
      )
