-- Of every state that passes the recorder's own test: the bytes of the command that a reply leads to are those of its maker, which
-- refuses none.
use mathlib.Core.Path.{◌≡◌, refl, sym, ap, subst, ◌∙◌}
use mathlib.Core.Bool.{Bool, true, false}
use mathlib.Core.List.{List, [], ◌∷◌}
use Prim.Native.Nat.{ℕ, suc, ◌≤◌, ◌<◌}
use native.Mathlib.Omega.{arith}
use borrow.Author.Tests.{leb-true}
use lib.Dec.{leb}
use Rattle.basics.specs.Bytes.{if}
use Rattle.mmc.specs.Refusals.{pass}
use Rattle.mmc.specs.Order.{most_tracks}
use Rattle.mmc.specs.ReplyBlock.{reply_of}
use Rattle.mmc.specs.declared.order.Order.{Order}
use Rattle.recorder.specs.declared.script.Op.{Op}
use Rattle.recorder.specs.declared.script.Op.TheVariants.{GetConfiguration, SendCueSheet, TestUnitReady, RequestSense}
use Rattle.std.specs.declared.option.Option.{Option}
use Rattle.std.specs.declared.option.Option.TheVariants.{Some, None}
use Rattle.recorder.specs.declared.answers.Command.{Command}
use Rattle.recorder.specs.declared.replies.Reading.{Reading}
use Rattle.recorder.specs.declared.exchanges.Seen.{Seen}
use Rattle.recorder.specs.declared.job.Poll.{Poll}
use Rattle.recorder.specs.declared.job.Poll.TheVariants.{Off, Ready, Sense}
use Rattle.recorder.specs.declared.job.Progress.{Progress}
use Rattle.recorder.specs.declared.job.Recorder.{Recorder}
use Rattle.recorder.specs.Answers.{issue, made_for, bytes_in, Why, done, stop}
use Rattle.recorder.specs.Replies.{reading}
use Rattle.recorder.specs.Script.{is_poll, takes_immed, track_in}
use Rattle.recorder.specs.Exchanges.{see}
use Rattle.recorder.specs.Rules.{Judgement, again, onward, refused, judge}
use Rattle.recorder.specs.Places.{piece_of, after_in}
use Rattle.recorder.specs.Job.{due_at, due_in, command_of, Turn, goes, finish, halt, advanced, aside, turn_by, turn_of, step_of, stands_at, stands_in, stands_polled, stands_erasing, stands, unchanged, rests_at, opening, give_of}
use Rattle.std.proofs.lemmas.Bool.{and_parts, false≢true}
use Rattle.recorder.proofs.Lists.{clash}
use Rattle.recorder.proofs.Turns.{is_asking, Reads, busy, not_ready_lem, failed, malformed, profile, status, information, indication, ready, unread, reads}
use Rattle.recorder.proofs.Makes.{Makes, made_by_lem, own_by, not_read, MakesThen, on_unread, on_asking, on_closed}

-- ---- a reply to such a state

abbrev MakesTurn : ℕ → Turn → Type 0
MakesTurn n (goes t) = Makes n (due_in t) t.seen.at
MakesTurn n finish = Unit {0}
MakesTurn n (halt w) = Unit {0}

advanced_made : (n : ℕ) (f : Option Op) (u : Seen) → MakesThen n f u.at → MakesTurn n (advanced f u)
advanced_made n (Some y) u h = h
advanced_made n None u h = tt

-- nothing is needed for a poll or A1h
aside_made : (n : ℕ) (b : Bool) (x : Op) (v : Seen) → MakesTurn n (goes (aside b x v))
aside_made n true x v = tt
aside_made n false x v = tt

-- answers and judgements apart
not_issued : (w : Why) (c : Command) → stop w ≡ issue c → ⊥
not_issued w c e = clash (cc)

not_done : (c : Command) → done ≡ issue c → ⊥
not_done c e = clash (cc)

pub same_command : (c d : Command) → issue c ≡ issue d → c ≡ d
same_command c d e = cc

not_again : (xs : List Op) → again ≡ onward xs → ⊥
not_again xs e = clash (cc)

not_refused : (w : Why) (xs : List Op) → refused w ≡ onward xs → ⊥
not_refused w xs e = clash (cc)

-- no failed reply leads onward, but to 00h
failed_asks : (o : Order) (v : Seen) (x : Op) (g : Bool) (r : Reading) (xs : List Op) → Reads x g r → g ≡ false → judge o v x r ≡ onward xs → x ≡ TestUnitReady
failed_asks o v x g r xs (busy n) f q = absurd (not_again xs q)
failed_asks o v x g r xs not_ready_lem f q = refl
failed_asks o v x g r xs failed f q = absurd (not_refused _ xs q)
failed_asks o v x g r xs (malformed a) f q = absurd (false≢true (sym f))
failed_asks o v x g r xs profile f q = absurd (false≢true (sym f))
failed_asks o v x g r xs status f q = absurd (false≢true (sym f))
failed_asks o v x g r xs information f q = absurd (false≢true (sym f))
failed_asks o v x g r xs indication f q = absurd (false≢true (sym f))
failed_asks o v x g r xs ready f q = refl
failed_asks o v x g r xs (unread u n) f q = absurd (false≢true (sym f))

module _ (o : Order) (x : Op) (v : Seen) (e : stands_in o.method o.recipe o.count (piece_of o (track_in x)) (piece_of o (suc (track_in x))) v.at x ≡ true) where
  standing : (1 ≤ o.count) × ((o.count ≤ most_tracks) × (stands_at o.method o.recipe o.count (piece_of o (track_in x)) (piece_of o (suc (track_in x))) v.at x ≡ true))
  unfolding stands_in
  standing =
      let p = and_parts (leb 1 o.count) _ e in
      let q = and_parts (leb o.count most_tracks) _ p.1 in
      (leb-true _ _ p.0, (leb-true _ _ q.0, q.1))

  pause_long : x ≡ SendCueSheet → 0 < piece_of o (track_in x)
  pause_long p = subst (λ (y : Op). 0 < piece_of o (track_in y)) (sym p) (omega arith)

  -- a good reply
  next_made : (r : Reading) → Reads x true r → MakesThen o.count (after_in o x) (see o.method x r v).at
  next_made r w = go (is_asking x) refl
    where
      go : (b : Bool) → is_asking x ≡ b → MakesThen o.count (after_in o x) (see o.method x r v).at
      go true q = on_asking o.count _ v standing.0 standing.1.0 o.method o.recipe _ x _ q
      go false q =
          subst (λ (k : Reading). MakesThen o.count (after_in o x) (see o.method x k v).at) (sym (not_read x r q w))
          (on_unread o.count _ v standing.0 standing.1.0 o.method o.recipe _ x pause_long standing.1.1 q)

  -- the job has no place at 00h
  no_place : x ≡ TestUnitReady → ⊥
  no_place p = false≢true (subst (λ (y : Op). stands_at o.method o.recipe o.count (piece_of o (track_in x)) (piece_of o (suc (track_in x))) v.at y ≡ true) p standing.1.1)

  turn_made : (p : Poll) → stands_polled o.immed x p ≡ true → (g : Bool) (r : Reading) (j : Judgement) → Reads (due_at x p) g r → judge o v (due_at x p) r ≡ j → MakesTurn o.count (turn_by j o (record { place = x; poll = p; seen = v }) r)
  turn_made Off c g r again w q = own_by o.method o.recipe o.count _ _ v.at x standing.0 standing.1.0 standing.1.1
  turn_made Off c true r (onward []) w q = advanced_made o.count (after_in o x) (see o.method x r v) (next_made r w)
  turn_made Off c false r (onward []) w q = absurd (no_place (failed_asks o v x false r [] w refl q))
  turn_made Off c g r (onward (y ∷ ys)) w q = aside_made o.count (is_poll y) x _
  turn_made Off c g r (refused y) w q = tt
  turn_made Ready c g r again w q = tt
  turn_made Ready c g r (onward []) w q = tt
  turn_made Ready c g r (onward (y ∷ ys)) w q = aside_made o.count (is_poll y) x _
  turn_made Ready c g r (refused y) w q = tt
  turn_made Sense c g r again w q = tt
  turn_made Sense c g r (onward []) w q =
      advanced_made o.count (after_in o x) (see o.method RequestSense r v) (on_closed o.count _ v standing.0 standing.1.0 o.method o.recipe _ x _ (and_parts (takes_immed x) _ c).0)
  turn_made Sense c g r (onward (y ∷ ys)) w q = aside_made o.count (is_poll y) x _
  turn_made Sense c g r (refused y) w q = tt

-- the command that is given has its maker's bytes
step_made : (o : Order) (s : Progress) (n : ℕ) (t : Turn) → MakesTurn o.count t → (c : Command) → (step_of o s n t).answer ≡ issue c → made_for o.immed o.count c ≡ pass (bytes_in (step_of o s n t).cdb)
step_made o s n (goes u) h c e =
    let q : command_of u ≡ c = same_command _ c e in
    ap (made_for o.immed o.count) (sym q) ∙ made_by_lem o.immed o.count (due_in u) u.seen.at h
step_made o s n finish h c e = absurd (not_done c e)
step_made o s n (halt w) h c e = absurd (not_issued w c e)

pub give_made : (r : Recorder) (good : Bool) (d : List ℕ) (c : Command) → (give_of r good d).answer ≡ issue c → made_for r.order.immed r.order.count c ≡ pass (bytes_in (give_of r good d).cdb)
unfolding give_of
give_made r good d c = go (rests_at r.phase) (stands r.order r.progress) refl
  where
    s : Progress
    s = r.progress

    t : Turn
    t = turn_of r.order s (reading (due_in s) (reply_of good d))

    go : (a b : Bool) → stands r.order s ≡ b →
        (if a (unchanged r 13) (if b (step_of r.order s r.count t) (unchanged r 3))).answer ≡ issue c →
        made_for r.order.immed r.order.count c ≡ pass (bytes_in (if a (unchanged r 13) (if b (step_of r.order s r.count t) (unchanged r 3))).cdb)
    go true b q e = absurd (not_issued _ c e)
    go false false q e = absurd (not_issued _ c e)
    go false true q e =
        let p = and_parts (stands_polled r.order.immed s.place s.poll) _ q in
        let i = and_parts (stands_erasing r.order.erase s.place) _ p.1 in
        step_made r.order s r.count t
        (turn_made r.order s.place s.seen i.1 s.poll p.0 good (reading (due_in s) (reply_of good d)) _ (reads (due_in s) (reply_of good d)) refl) c e

-- and the first one
pub take_made : (o : Order) (n : ℕ) (c : Command) → (step_of o opening n (goes opening)).answer ≡ issue c → made_for o.immed o.count c ≡ pass (bytes_in (step_of o opening n (goes opening)).cdb)
take_made o n c e = let q : command_of opening ≡ c = same_command _ c e in ap (made_for o.immed o.count) (sym q) ∙ made_by_lem o.immed o.count GetConfiguration (record { 0 = 0 }) tt
