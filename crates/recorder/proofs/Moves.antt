-- One reply to the operation that is due: the job goes where the rules go.
use mathlib.Core.Path.{◌≡◌, refl, sym, ap, subst, ◌∙◌}
use mathlib.Core.Bool.{Bool, true, false, not}
use mathlib.Core.List.{List, [], ◌∷◌}
use Prim.Native.Nat.{ℕ, ◌+◌, ◌≤◌}
use native.Mathlib.Omega.{arith}
use Rattle.mmc.specs.ReplyBlock.{Reply}
use Rattle.mmc.specs.declared.order.Order.{Order}
use Rattle.mmc.specs.declared.order.Method.{Method}
use Rattle.mmc.specs.declared.order.Method.TheVariants.{Tao, Sao}
use Rattle.recorder.specs.declared.script.Op.{Op}
use Rattle.recorder.specs.declared.script.Op.TheVariants.{GetConfiguration, ReadDiscInformation, ReadTrackInformation, ModeSelect, SendCueSheet, Write, SynchronizeCache, CloseTrack, CloseSession, Blank, TestUnitReady, RequestSense}
use Rattle.std.specs.declared.option.Option.{Option}
use Rattle.std.specs.declared.option.Option.TheVariants.{Some, None}
use Rattle.recorder.specs.declared.replies.DiscInformation.{DiscInformation}
use Rattle.recorder.specs.declared.replies.Reading.{Reading}
use Rattle.recorder.specs.declared.replies.Reading.TheVariants.{Disc, ProgressIndication, Unread}
use Rattle.recorder.specs.declared.exchanges.Seen.{Seen}
use Rattle.recorder.specs.declared.job.Poll.{Poll}
use Rattle.recorder.specs.declared.job.Poll.TheVariants.{Off, Ready, Sense}
use Rattle.recorder.specs.declared.job.Progress.{Progress}
use Rattle.recorder.specs.Answers.{Why, because}
use Rattle.recorder.specs.Replies.{reading}
use Rattle.recorder.specs.Script.{count_in, takes_immed, is_polled}
use Rattle.recorder.specs.Exchanges.{Named, past, see, name}
use Rattle.recorder.specs.Rules.{Judgement, onward, refused, disc_tests, erases, erasing_if, track_tests, polls_if, is_last, judge, move, none, found, refused_by}
use Rattle.recorder.specs.Places.{after_in}
use Rattle.recorder.specs.Job.{due_at, goes, finish, halt, advanced, turn_by, turn_of}
use Rattle.std.proofs.lemmas.Bool.{and_parts, false≢true}
use Rattle.recorder.proofs.Lists.{tested_by}
use Rattle.recorder.proofs.Turns.{Reads, busy, not_ready_lem, failed, malformed, profile, status, information, indication, ready, unread, reads}
use Rattle.recorder.proofs.Apart.{past_count}
use Rattle.recorder.proofs.Behind.{Sized, behind, onto, Goes, GoesOn, goes_on}
use Rattle.recorder.proofs.Standing.{long_at, InSession, Early, Standing, StandingThen, standing_closing, stood, stood_polled}

-- the job at an operation and its polling
abbrev pub at : Op → Poll → Seen → Progress
at x p v = record { place = x; poll = p; seen = v }

-- behind what is due, its polls or the operation itself
abbrev pub behind_at : Order → Op → Poll → List Op
behind_at o x Off = behind o x
behind_at o x Ready = RequestSense ∷ behind o x
behind_at o x Sense = behind o x

abbrev pub plan_at : Order → Op → Poll → List Op
plan_at o x p = due_at x p ∷ behind_at o x p

-- only what takes Immed is polled
abbrev pub PolledAt : Order → Op → Poll → Type 0
PolledAt o x Off = Unit {0}
PolledAt o x Ready = is_polled o.immed x ≡ true
PolledAt o x Sense = is_polled o.immed x ≡ true

-- how the job stands
pub record Stood (o : Order) (x : Op) (p : Poll) (v : Seen) (n : Named) : Type 0 where
  pub standing : Standing o.method o x v n
  pub polled_at : PolledAt o x p

-- where it goes after a reply that says r, and what the plan and the tests say then
pub data Moved (o : Order) (x : Op) (p : Poll) (v : Seen) (n : Named) (r : Reading) : Type 0 where
  on_to : (z : Op) (q : Poll) → turn_of o (at x p v) r ≡ goes (at z q (see o.method (due_at x p) r v)) → refused_by (judge o v (due_at x p) r) ≡ none → move (judge o v (due_at x p) r) (plan_at o x p) ≡ plan_at o z q → Stood o z q (see o.method (due_at x p) r v) (name (due_at x p) r n) → Moved o x p v n r
  stops : (w : Why) → turn_of o (at x p v) r ≡ halt w → refused_by (judge o v (due_at x p) r) ≡ found w → Moved o x p v n r
  ends : turn_of o (at x p v) r ≡ finish → refused_by (judge o v (due_at x p) r) ≡ none → move (judge o v (due_at x p) r) (plan_at o x p) ≡ [] → Moved o x p v n r

-- in SAO the piece at hand is the order's, and the next track is not empty
goes_sao : (o : Order) (t : ℕ) → Sized o → InSession o → t ≤ o.count → Goes Sao o t
goes_sao o t z i l = (l, λ h. let a = z.all in long_at o t i.long (omega arith))

pub standing_goes : (m : Method) (o : Order) (x : Op) (v : Seen) (n : Named) → Sized o → Standing m o x v n → GoesOn m o x
standing_goes m o GetConfiguration v n z s = tt
standing_goes m o ReadDiscInformation v n z s = tt
standing_goes m o (ReadTrackInformation t) v n z s = tt
standing_goes m o (ModeSelect t) v n z s = tt
standing_goes Tao o SendCueSheet v n z s = tt
standing_goes Sao o SendCueSheet v n z s = goes_sao o 0 z s.0 (omega arith)
standing_goes Tao o (Write t f c) v n z s = tt
standing_goes Sao o (Write t f c) v n z s = goes_sao o t.0 z s.0 s.1.1.few
standing_goes m o (SynchronizeCache t) v n z s = tt
standing_goes Tao o (CloseTrack t) v n z s = refl
standing_goes Sao o (CloseTrack t) v n z s = absurd s
standing_goes m o CloseSession v n z s = tt
standing_goes m o Blank v n z s = tt
standing_goes m o TestUnitReady v n z s = absurd s
standing_goes m o RequestSense v n z s = absurd s

-- the plan goes on from an operation to what comes after it
module _ (o : Order) (x : Op) (p : Poll) (v : Seen) (n : Named) (z : Sized o) (s : Standing o.method o x v n) (r : Reading) where
  abbrev w : Seen
  w = see o.method (due_at x p) r v

  abbrev k : Named
  k = name (due_at x p) r n

  onward_to : refused_by (judge o v (due_at x p) r) ≡ none → turn_of o (at x p v) r ≡ advanced (after_in o x) w → move (judge o v (due_at x p) r) (plan_at o x p) ≡ behind o x → StandingThen o.method o (after_in o x) w k → Moved o x p v n r
  onward_to u t m h = go (after_in o x) refl h
    where
      turns : (f : Option Op) → after_in o x ≡ f → turn_of o (at x p v) r ≡ advanced f w
      turns f e = t ∙ ap (λ (g : Option Op). advanced g w) e

      moves : (f : Option Op) → after_in o x ≡ f → move (judge o v (due_at x p) r) (plan_at o x p) ≡ onto o f
      moves f e = m ∙ goes_on o x z (standing_goes o.method o x v n z s) ∙ ap (onto o) e

      go : (f : Option Op) → after_in o x ≡ f → StandingThen o.method o (after_in o x) w k → Moved o x p v n r
      go (Some y) e h = on_to y Off (turns (Some y) e) u (moves (Some y) e) (record { standing = subst (λ (f : Option Op). StandingThen o.method o f w k) e h; polled_at = tt })
      go None e h = ends (turns None e) u (moves None e)

  refuses : (y : Why) → judge o v (due_at x p) r ≡ refused y → Moved o x p v n r
  refuses y j = stops y (ap (λ (k : Judgement). turn_by k o (at x p v) r) j) (ap refused_by j)

-- a good reply that passes
passes : (o : Order) (x : Op) (v : Seen) (n : Named) → Sized o → Early o x → Standing o.method o x v n → (r : Reading) → Reads x true r → judge o v x r ≡ onward [] → Moved o x Off v n r
passes o x v n z early s r w j =
    onward_to o x Off v n z s r (ap refused_by j) (ap (λ (k : Judgement). turn_by k o (at x Off v) r) j) (ap (λ (k : Judgement). move k (x ∷ behind o x)) j) (stood o x r v n z early s w (ap refused_by j))

-- where the next block goes after an operation that takes Immed
pub immed_at : (x : Op) (v : Seen) → takes_immed x ≡ true → (past x v.at).0 ≡ v.at.0
immed_at x v c = past_count x v.at ∙ none_put x c
  where
    none_put : (x : Op) → takes_immed x ≡ true → v.at.0 + count_in x ≡ v.at.0
    none_put GetConfiguration c = omega arith
    none_put ReadDiscInformation c = omega arith
    none_put (ReadTrackInformation t) c = omega arith
    none_put (ModeSelect t) c = omega arith
    none_put SendCueSheet c = omega arith
    none_put (Write t f k) c = absurd (false≢true c)
    none_put (SynchronizeCache t) c = omega arith
    none_put (CloseTrack t) c = omega arith
    none_put CloseSession c = omega arith
    none_put Blank c = omega arith
    none_put TestUnitReady c = omega arith
    none_put RequestSense c = omega arith

-- one that is not read, by whether its operation is polled
worked : (o : Order) (x : Op) (v : Seen) (n : Named) → Sized o → Early o x → Standing o.method o x v n → Reads x true Unread → (b : Bool) → is_polled o.immed x ≡ b → Moved o x Off v n Unread
worked o x v n z early s w true q =
    on_to x Ready (ap (λ (b : Bool). turn_by (polls_if b) o (at x Off v) Unread) q) refl (ap (λ (b : Bool). move (polls_if b) (x ∷ behind o x)) q)
    (record { standing = standing_closing o.method o x v _ n n s (and_parts (takes_immed x) _ q).0 (immed_at x v (and_parts (takes_immed x) _ q).0); polled_at = q })
worked o x v n z early s w false q = passes o x v n z early s Unread w (ap polls_if q)

-- a disc that passes, by whether it is erased first
described : (o : Order) (v : Seen) (n : Named) → Sized o → Early o ReadDiscInformation → Standing o.method o ReadDiscInformation v n → (d : DiscInformation) (b : Bool) → erases o.erase v.erased d.status ≡ b → judge o v ReadDiscInformation (Disc d) ≡ onward (erasing_if b) → Moved o ReadDiscInformation Off v n (Disc d)
described o v n z early s d false q j = passes o ReadDiscInformation v n z early s (Disc d) status j
described o v n z early s d true q j =
    on_to Blank Off (ap (λ (k : Judgement). turn_by k o (at ReadDiscInformation Off v) (Disc d)) j) (ap refused_by j) (ap (λ (k : Judgement). move k (ReadDiscInformation ∷ behind o ReadDiscInformation)) j)
    (record { standing = ((and_parts o.erase _ q).0, s); polled_at = tt })

moved_off : (o : Order) (x : Op) (v : Seen) (n : Named) → Sized o → Early o x → Standing o.method o x v n → (g : Bool) (r : Reading) → Reads x g r → Moved o x Off v n r
moved_off o x v n z early s g r (busy i) = on_to x Off refl refl refl (record { standing = s; polled_at = tt })
moved_off o x v n z early s g r not_ready_lem = absurd s
moved_off o x v n z early s g r failed = refuses o x Off v n z s r _ refl
moved_off o x v n z early s g r (malformed a) = refuses o x Off v n z s r _ refl
moved_off o x v n z early s g r profile = passes o x v n z early s r profile refl
moved_off o x v n z early s g r (status {d = d}) =
    tested_by (λ (j : Judgement). judge o v x r ≡ j → Moved o x Off v n r) (disc_tests o.erase o v d) (erasing_if (erases o.erase v.erased d.status))
    (λ c. described o v n z early s d (erases o.erase v.erased d.status) refl) (λ k. refuses o x Off v n z s r (because k)) refl
moved_off o x v n z early s g r (information {t = t} {i = i}) =
    tested_by (λ (j : Judgement). judge o v x r ≡ j → Moved o x Off v n r) (track_tests o t.0 v i) [] (λ c. passes o x v n z early s r information) (λ k. refuses o x Off v n z s r (because k)) refl
moved_off o x v n z early s g r indication = absurd s
moved_off o x v n z early s g r ready = absurd s
moved_off o x v n z early s g r (unread q i) = worked o x v n z early s (unread q i) (is_polled o.immed x) refl

-- a reply to 00h
moved_ready : (o : Order) (x : Op) (v : Seen) (n : Named) → Sized o → Standing o.method o x v n → is_polled o.immed x ≡ true → (g : Bool) (r : Reading) → Reads TestUnitReady g r → Moved o x Ready v n r
moved_ready o x v n z s c g r (busy i) = absurd (false≢true (sym i))
moved_ready o x v n z s c g r not_ready_lem = on_to x Sense refl refl refl (record { standing = standing_closing o.method o x v _ n n s (and_parts (takes_immed x) _ c).0 refl; polled_at = c })
moved_ready o x v n z s c g r failed = refuses o x Ready v n z s r _ refl
moved_ready o x v n z s c g r (malformed a) = elim a [ ]
moved_ready o x v n z s c g r ready = on_to x Sense refl refl refl (record { standing = standing_closing o.method o x v _ n n s (and_parts (takes_immed x) _ c).0 refl; polled_at = c })
moved_ready o x v n z s c g r (unread q i) = absurd (false≢true (sym i))

-- a reply to 03h, by whether the round was the last
heard : (o : Order) (x : Op) (v : Seen) (n : Named) → Sized o → Standing o.method o x v n → is_polled o.immed x ≡ true → (m : ℕ) (b : Bool) → is_last v.ready m ≡ b → Moved o x Sense v n (ProgressIndication m)
heard o x v n z s c m true q =
    onward_to o x Sense v n z s (ProgressIndication m) refl (ap (λ (b : Bool). turn_by (polls_if (not b)) o (at x Sense v) (ProgressIndication m)) q) (ap (λ (b : Bool). move (polls_if (not b)) (RequestSense ∷ behind o x)) q)
    (stood_polled o x v _ n n s (and_parts (takes_immed x) _ c).0 refl)
heard o x v n z s c m false q =
    on_to x Ready (ap (λ (b : Bool). turn_by (polls_if (not b)) o (at x Sense v) (ProgressIndication m)) q) refl (ap (λ (b : Bool). move (polls_if (not b)) (RequestSense ∷ behind o x)) q)
    (record { standing = standing_closing o.method o x v _ n n s (and_parts (takes_immed x) _ c).0 refl; polled_at = c })

moved_sense : (o : Order) (x : Op) (v : Seen) (n : Named) → Sized o → Standing o.method o x v n → is_polled o.immed x ≡ true → (g : Bool) (r : Reading) → Reads RequestSense g r → Moved o x Sense v n r
moved_sense o x v n z s c g r (busy i) = on_to x Sense refl refl refl (record { standing = s; polled_at = c })
moved_sense o x v n z s c g r failed = refuses o x Sense v n z s r _ refl
moved_sense o x v n z s c g r (malformed a) = refuses o x Sense v n z s r _ refl
moved_sense o x v n z s c g r (indication {n = m}) = heard o x v n z s c m (is_last v.ready m) refl
moved_sense o x v n z s c g r (unread q i) = absurd (false≢true (sym q))

moved_by : (o : Order) (x : Op) (p : Poll) (v : Seen) (n : Named) → Sized o → Early o (due_at x p) → Standing o.method o x v n → PolledAt o x p → (g : Bool) (r : Reading) → Reads (due_at x p) g r → Moved o x p v n r
moved_by o x Off v n z early s c g r w = moved_off o x v n z early s g r w
moved_by o x Ready v n z early s c g r w = moved_ready o x v n z s c g r w
moved_by o x Sense v n z early s c g r w = moved_sense o x v n z s c g r w

-- any reply
pub moved : (o : Order) (x : Op) (p : Poll) (v : Seen) (n : Named) → Sized o → Early o (due_at x p) → Stood o x p v n → (y : Reply) → Moved o x p v n (reading (due_at x p) y)
moved o x p v n z early s y = moved_by o x p v n z early s.standing s.polled_at y.good (reading (due_at x p) y) (reads (due_at x p) y)
