-- One reply more: while the job goes on it does what the rules say, and once it has ended nothing changes.
use mathlib.Core.Path.{◌≡◌, refl, sym, ap, subst, ◌∙◌}
use mathlib.Core.Bool.{Bool, true}
use mathlib.Core.List.{List, [], ◌∷◌, ◌++◌}
use Prim.Native.Nat.{ℕ, suc, ◌≤◌, ◌<◌, min}
use native.Mathlib.Omega.{arith}
use lib.ListN.{length}
use Rattle.mmc.specs.Refusals.{Outcome, pass}
use Rattle.mmc.specs.ReplyBlock.{Reply}
use Rattle.mmc.specs.declared.order.Order.{Order}
use Rattle.recorder.specs.declared.script.Op.{Op}
use Rattle.recorder.specs.declared.answers.Command.{Command}
use Rattle.recorder.specs.declared.exchanges.Seen.{Seen}
use Rattle.recorder.specs.declared.job.Phase.{Phase}
use Rattle.recorder.specs.declared.job.Phase.TheVariants.{Going as Open, Finished}
use Rattle.recorder.specs.declared.job.Poll.{Poll}
use Rattle.recorder.specs.declared.job.Recorder.{Recorder}
use Rattle.recorder.specs.Answers.{Why, because, drive_failed, Ruling, issue, done, stop, made_for, bytes_in}
use Rattle.recorder.specs.Replies.{reading}
use Rattle.recorder.specs.Script.{stepwise}
use Rattle.recorder.specs.Exchanges.{Exchange, seen, named}
use Rattle.recorder.specs.Rules.{judged, move, left, none, found, refused_by, first_refused, ruled, exchanged}
use Rattle.recorder.specs.Job.{Next, due_at, command_of, Turn, goes, turn_of, most_commands, one_more, state_of, next_of, phase_of, step_of, unchanged, stands, rests_at, valid_of, give_of}
use Rattle.recorder.specs.History.{History, given, command_in, commands, Ending, going, as_done, as_stop, ending, sooner, ended, phase_in, Each, Fresh, answered}
use Rattle.std.proofs.lemmas.Bool.{false≢true}
use Rattle.recorder.proofs.Lists.{if_yes, same_order}
use Rattle.recorder.proofs.Turns.{made, Played, then}
use Rattle.recorder.proofs.Rulings.{refused_next, ruled_at, ruled_stop}
use Rattle.recorder.proofs.Erasing.{was_recordable}
use Rattle.recorder.proofs.Goods.{is_end, not_going}
use Rattle.recorder.proofs.Behind.{Sized}
use Rattle.recorder.proofs.Moves.{at, behind_at, plan_at, Stood, Moved, on_to, stops, ends, moved}
use Rattle.recorder.proofs.Leads.{give_made}
use Rattle.recorder.proofs.States.{stood_stands, stood_fresh}

-- the job that waits for the reply to an operation's command
abbrev pub waiting : Order → Op → Poll → List Exchange → ℕ → Recorder
waiting o x p es n = state_of o (at x p (seen o.method es)) Open n

abbrev pub live : Order → Op → Poll → ℕ → List Ruling → List Exchange → History
live o x p n xs es = record { last = next_of (waiting o x p es n) (issue (command_of (at x p (seen o.method es)))); answers = xs; exchanges = es }

-- after k replies: the job goes on
pub record Going (o : Order) (k : ℕ) (x : Op) (p : Poll) (n : ℕ) (xs : List Ruling) (es : List Exchange) : Type 0 where
  pub sized : Sized o
  pub unrefused : first_refused o es ≡ none
  pub plan : left o es ≡ plan_at o x p
  pub stood : Stood o x p (seen o.method es) (named es)
  pub bytes_made : made_for o.immed o.count (command_of (at x p (seen o.method es))) ≡ pass (bytes_in (live o x p n xs es).last.cdb)
  pub counts : n ≡ min (length (commands xs)) most_commands
  pub not_ended : ended xs ≡ going
  pub commands_given : commands xs ≡ command_of (at x p (seen o.method es)) ∷ answered es
  pub each : length es ≡ k
  pub fresh : stepwise o.method ≡ true → Each Fresh es
  pub played : Played o es

-- after k replies: the job has ended
pub record Over (q : Outcome Order) (k : ℕ) (h : History) : Type 0 where
  pub answer_ends : is_end h.last.answer ≡ true
  pub state_ended : rests_at h.last.state.phase ≡ true
  pub phase_so : h.last.state.phase ≡ phase_in (ended h.answers)
  pub rules_over : is_end (ruled q h.exchanges) ≡ true
  pub so_ended : ended h.answers ≡ ending (ruled q h.exchanges)
  pub counts : h.last.state.count ≡ min (length (commands h.answers)) most_commands
  pub reports : h.last.count ≡ h.last.state.count
  pub commands_given : commands h.answers ≡ answered h.exchanges
  pub then : length h.exchanges ≡ k → h.last.answer ≡ ruled q h.exchanges
  pub later : length h.exchanges < k → h.last.answer ≡ stop (because 13)
  pub each : length h.exchanges ≤ k
  pub fresh : (o : Order) → q ≡ pass o → stepwise o.method ≡ true → Each Fresh h.exchanges

pub data Inv : Outcome Order → ℕ → History → Type 0 where
  open_so : {o : Order} {k : ℕ} {x : Op} {p : Poll} {n : ℕ} {xs : List Ruling} {es : List Exchange} → Going o k x p n xs es → Inv (pass o) k (live o x p n xs es)
  over_so : {q : Outcome Order} {k : ℕ} {h : History} → Over q k h → Inv q k h

-- ---- the answers

-- a reply that answers nothing
pub no_exchange : (a : Ruling) (y : Reply) (es : List Exchange) → is_end a ≡ true → exchanged a y es ≡ es
no_exchange (issue c) y es e = absurd (false≢true e)
no_exchange done y es e = refl
no_exchange (stop w) y es e = refl

ended_stays : (x y : Ending) → (x ≡ going → ⊥) → sooner x y ≡ x
ended_stays going y n = absurd (n refl)
ended_stays as_done y n = refl
ended_stays (as_stop w) y n = refl

-- ---- the step of a valid state that goes on, and of one that has ended

give_live : (o : Order) (x : Op) (p : Poll) (es : List Exchange) (n : ℕ) (y : Reply) → stands o (at x p (seen o.method es)) ≡ true → give_of (waiting o x p es n) y.good y.bytes ≡ step_of o (at x p (seen o.method es)) n (turn_of o (at x p (seen o.method es)) (reading (due_at x p) y))
unfolding give_of
give_live o x p es n y v = if_yes _ _ v

pub ended_valid : (r : Recorder) → rests_at r.phase ≡ true → valid_of r ≡ true
unfolding valid_of
ended_valid r e = if_yes _ _ e

pub give_over : (r : Recorder) (g : Bool) (d : List ℕ) → rests_at r.phase ≡ true → give_of r g d ≡ unchanged r 13
unfolding give_of
give_over r g d e = if_yes _ _ e

-- a history with one step more
abbrev step : History → Reply → Next → History
step h y x = record { last = x; answers = x.answer ∷ h.answers; exchanges = exchanged h.last.answer y h.exchanges }

-- ---- an ended job

again : (q : Outcome Order) (k : ℕ) (h : History) (y : Reply) → Over q k h → Over q (suc k) (step h y (unchanged h.last.state 13))
again q k h y v =
    record {
      answer_ends = refl;
      state_ended = v.state_ended;
      phase_so = v.phase_so ∙ ap phase_in (sym (ended_stays (ended h.answers) _ (λ e. not_going (ruled q h.exchanges) v.rules_over (sym v.so_ended ∙ e))));
      rules_over = subst (λ (l : List Exchange). is_end (ruled q l) ≡ true) s v.rules_over;
      so_ended = ended_stays (ended h.answers) _ (λ e. not_going (ruled q h.exchanges) v.rules_over (sym v.so_ended ∙ e)) ∙ subst (λ (l : List Exchange). ended h.answers ≡ ending (ruled q l)) s v.so_ended;
      counts = v.counts;
      reports = refl;
      commands_given = v.commands_given ∙ ap answered s;
      then = λ z. absurd (omega (arith, v.each, ap length s));
      later = λ z. refl;
      each = omega (arith, v.each, ap length s);
      fresh = λ o e w. subst (Each Fresh) s (v.fresh o e w);
    }
  where
    s : h.exchanges ≡ exchanged h.last.answer y h.exchanges
    s = sym (no_exchange h.last.answer y h.exchanges v.answer_ends)

-- ---- a job that goes on

stopped_phase : (w : Why) → phase_of w ≡ phase_in (as_stop w)
stopped_phase (because n) = refl
stopped_phase (drive_failed x) = refl

stopped_rests : (w : Why) → rests_at (phase_of w) ≡ true
stopped_rests (because n) = refl
stopped_rests (drive_failed x) = refl

module _ (o : Order) (k : ℕ) (x : Op) (p : Poll) (n : ℕ) (xs : List Ruling) (es : List Exchange) (y : Reply) (g : Going o k x p n xs es) where
  abbrev v : Seen
  v = seen o.method es

  abbrev d : Op
  d = due_at x p

  abbrev e : Exchange
  e = made o es d y

  fresh_then : stepwise o.method ≡ true → Each Fresh (e ∷ es)
  fresh_then w = (stood_fresh o x p v (named es) w g.stood, g.fresh w)

  stepped : give_of (waiting o x p es n) y.good y.bytes ≡ step_of o (at x p v) n (turn_of o (at x p v) (reading d y))
  stepped = give_live o x p es n y (stood_stands o x p v (named es) g.sized g.stood)

  -- to the next command
  on : (z : Op) (q : Poll) → turn_of o (at x p v) (reading d y) ≡ goes (at z q (seen o.method (e ∷ es))) → refused_by (judged o es e) ≡ none → move (judged o es e) (plan_at o x p) ≡ plan_at o z q → Stood o z q (seen o.method (e ∷ es)) (named (e ∷ es)) → Going o (suc k) z q (one_more n) (issue (command_of (at z q (seen o.method (e ∷ es)))) ∷ xs) (e ∷ es)
  on z q t j m s =
      let c = g.counts in
      let a = g.each in
      let f : give_of (waiting o x p es n) y.good y.bytes ≡ step_of o (at x p v) n (goes (at z q (seen o.method (e ∷ es)))) = stepped ∙ ap (step_of o (at x p v) n) t in
      record {
        sized = g.sized;
        unrefused = refused_next o es e none g.unrefused j;
        plan = ap (move (judged o es e)) g.plan ∙ m;
        stood = s;
        bytes_made = give_made (waiting o x p es n) y.good y.bytes _ (ap (λ (w : Next). w.answer) f) ∙ ap (λ (w : Next). pass (bytes_in w.cdb)) f;
        counts = omega arith;
        not_ended = ap (λ (w : Ending). sooner w going) g.not_ended;
        commands_given = ap (λ (l : List Command). command_of (at z q (seen o.method (e ∷ es))) ∷ l) g.commands_given;
        each = omega arith;
        fresh = fresh_then;
        played = then g.played g.unrefused g.plan y;
      }

  -- to an end that the rules say too
  end_at : (f : Phase) (a : Ruling) → f ≡ phase_in (ending a) → rests_at f ≡ true → is_end a ≡ true → command_in a ≡ [] → ruled (pass o) (e ∷ es) ≡ a → Over (pass o) (suc k) (record { last = next_of (state_of o (at x p v) f n) a; answers = a ∷ xs; exchanges = e ∷ es })
  end_at f a d z t m r =
      let c = g.counts in
      let b = g.each in
      let l : commands (a ∷ xs) ≡ commands xs = ap (λ (w : List Command). w ++ commands xs) m in
      let i = ap length l in
      record {
        answer_ends = t;
        state_ended = z;
        phase_so = d ∙ ap (λ (w : Ending). phase_in (sooner w (ending a))) (sym g.not_ended);
        rules_over = ap is_end r ∙ t;
        so_ended = ap (λ (w : Ending). sooner w (ending a)) g.not_ended ∙ ap ending (sym r);
        counts = omega arith;
        reports = refl;
        commands_given = l ∙ g.commands_given;
        then = λ w. sym r;
        later = λ w. absurd (omega arith);
        each = omega arith;
        fresh = λ p q w. fresh_then (same_stepwise p q w);
      }
    where
      same_stepwise : (p : Order) → pass o ≡ pass p → stepwise p.method ≡ true → stepwise o.method ≡ true
      same_stepwise p q w = let i : o ≡ p = same_order o p q in ap (λ (m : Order). stepwise m.method) i ∙ w

  abbrev Goal : Turn → Type 0
  Goal t = Inv (pass o) (suc k) (step (live o x p n xs es) y (step_of o (at x p v) n t))

  next_open : Goal (turn_of o (at x p v) (reading d y))
  next_open = go (moved o x p v (named es) g.sized (was_recordable o es d (behind_at o x p) g.played g.plan) g.stood y)
    where
      go : Moved o x p v (named es) (reading d y) → Goal (turn_of o (at x p v) (reading d y))
      go (on_to z q t j m s) = subst Goal (sym t) (open_so (on z q t j m s))
      go (stops w t j) = subst Goal (sym t) (over_so (end_at (phase_of w) (stop w) (stopped_phase w) (stopped_rests w) refl refl (ruled_stop o (e ∷ es) w (refused_next o es e (found w) g.unrefused j))))
      go (ends t j m) = subst Goal (sym t) (over_so (end_at Finished done refl refl refl refl (ruled_at o (e ∷ es) [] (refused_next o es e none g.unrefused j) (ap (move (judged o es e)) g.plan ∙ m))))

-- any reply
pub next_inv : (q : Outcome Order) (k : ℕ) (h : History) (y : Reply) → Inv q k h → Inv q (suc k) (given h y)
unfolding given
next_inv q k h y (open_so {o = o} {x = x} {p = p} {n = n} {xs = xs} {es = es} g) =
    subst (λ (z : Next). Inv (pass o) (suc k) (step (live o x p n xs es) y z)) (sym (stepped o k x p n xs es y g)) (next_open o k x p n xs es y g)
next_inv q k h y (over_so v) =
    subst (λ (z : Next). Inv q (suc k) (step h y z)) (sym (give_over h.last.state y.good y.bytes v.state_ended)) (over_so (again q k h y v))
