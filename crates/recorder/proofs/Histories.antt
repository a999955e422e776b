-- Demand 3, of every order block and every list of replies, and what `take` and `give` owe of it.
use mathlib.Core.Path.{◌≡◌, refl, sym, ap, subst, ◌∙◌}
use mathlib.Core.Logic.{◌↔◌}
use mathlib.Core.Bool.{Bool, true, false}
use mathlib.Core.List.{List, [], ◌∷◌, ◌++◌}
use Prim.Native.Nat.{ℕ, suc, ◌+◌, ◌≤◌, ◌<◌, min}
use native.Mathlib.Omega.{arith}
use lib.Dec.{lit≤}
use lib.ListN.{length, get_or, length-append}
use Rattle.basics.specs.Bytes.{if}
use Rattle.mmc.specs.Refusals.{Outcome, pass, refuse}
use Rattle.mmc.specs.Order.{tracks_in, valid_order}
use Rattle.mmc.specs.OrderBlock.{read_order}
use Rattle.mmc.specs.Page.{page, mode_bytes, page_fault, mode_data}
use Rattle.mmc.specs.ReplyBlock.{Reply, reply_of}
use Rattle.mmc.specs.declared.order.Order.{Order}
use Rattle.mmc.specs.declared.order.Kind.{Kind}
use Rattle.mmc.specs.declared.order.Method.TheVariants.{Tao}
use Rattle.mmc.specs.declared.order.Recipe.{Recipe}
use Rattle.mmc.specs.declared.order.Recipe.TheVariants.{Old, New}
use Rattle.recorder.specs.declared.script.Op.{Op}
use Rattle.recorder.specs.declared.script.Op.TheVariants.{GetConfiguration, Blank}
use Rattle.recorder.specs.declared.answers.Command.{Command}
use Rattle.recorder.specs.declared.job.Poll.{Poll}
use Rattle.recorder.specs.declared.job.Poll.TheVariants.{Off}
use Rattle.recorder.specs.declared.job.Recorder.{Recorder}
use Rattle.recorder.specs.declared.job.Step.{Step}
use Rattle.recorder.specs.Answers.{Why, because, Ruling, issue, done, stop, made_for, bytes_in}
use Rattle.recorder.specs.Script.{is_poll, is_erasing, stepwise, write, Block}
use Rattle.recorder.specs.Exchanges.{Exchange, recorded, occupied, polling, progress, profile, disc, erased, unblank, seen, named}
use Rattle.recorder.specs.Rules.{left, none, found, refusal, ruled, exchanged, play, ordered_in, AllClosed}
use Rattle.recorder.specs.Recipes.{under, others, replies_in, bytes_given}
use Rattle.recorder.specs.Job.{Next, next_in, due_at, command_of, most_commands, latest_progress, unchanged, valid_of, taken_as, take_of, give_of}
use Rattle.recorder.specs.History.{History, taken, given, given_all, history, command_in, commands, going, as_done, as_stop, ending, ended, phase_in, Accompanied, OfAnswer, Every, Fresh, Unskipped, RightlyErased, ErasesRightly, BlankBefore, WritesOnBlank, HasAudio, is_opening, OnlyOpens, ButFunction1, exact_count, AllWell, unpolled, answered, AllGood, Whole, Takes, Gives}
use Rattle.std.proofs.lemmas.Bool.{false≢true}
use Rattle.recorder.proofs.Lists.{if_yes, if_no, clash, same_order}
use Rattle.recorder.proofs.Turns.{Played, nothing, played, progress_seen}
use Rattle.recorder.proofs.Scripts.{script_length}
use Rattle.recorder.proofs.Rulings.{ruled_at, rule_order, rule_done, due_poll, each_unskipped, rule_stop}
use Rattle.recorder.proofs.Audio.{due_opens, each_opens}
use Rattle.recorder.proofs.Recipes.{script_others, others_played, others_done, others_stop}
use Rattle.recorder.proofs.Erasing.{is_later, rightly_erased, on_blank, each_rightly, each_on_blank}
use Rattle.recorder.proofs.Apart.{rule_apart}
use Rattle.recorder.proofs.Charge.{needs_all, room_lasts}
use Rattle.recorder.proofs.Goods.{is_end, not_going, never_polling, no_polls, Progressed, under_way, polled, at_end, rule_good}
use Rattle.recorder.proofs.Witness.{can_pass}
use Rattle.recorder.proofs.Behind.{Sized}
use Rattle.recorder.proofs.Moves.{at, behind_at, plan_at}
use Rattle.recorder.proofs.Leads.{same_command, give_made, take_made}
use Rattle.recorder.proofs.States.{stood_stands, stood_fresh, stood_accompanied, stood_shows}
use Rattle.recorder.proofs.Orders.{read_sized, newer_block}
use Rattle.recorder.proofs.Steps.{waiting, Going, Inv, open_so, over_so, no_exchange, ended_valid, give_over, next_inv}

-- ---- every list of replies

abbrev begun_as : Outcome Order → History
begun_as q = record { last = taken_as q; answers = (taken_as q).answer ∷ []; exchanges = [] }

first : (q : Outcome Order) → ((o : Order) → q ≡ pass o → Sized o) → Inv q 0 (begun_as q)
first (pass o) z =
    open_so {x = GetConfiguration} {p = Off}
    (record {
      sized = z o refl;
      unrefused = refl;
      plan = refl;
      stood = record { standing = refl; polled_at = tt };
      bytes_made = take_made o 0 _ refl;
      counts = refl;
      not_ended = refl;
      commands_given = refl;
      each = refl;
      fresh = λ w. tt;
      played = nothing;
    })
first (refuse n) z =
    over_so {k = 0} {h = begun_as (refuse n)}
    (record {
      answer_ends = refl;
      state_ended = refl;
      phase_so = refl;
      rules_over = refl;
      so_ended = refl;
      counts = refl;
      reports = refl;
      commands_given = refl;
      then = λ x. refl;
      later = λ x. absurd (omega arith);
      each = lit≤ tt;
      fresh = λ o e w. tt;
    })

-- the job's command is the rules'
ruled_going : (o : Order) (k : ℕ) (x : Op) (p : Poll) (n : ℕ) (xs : List Ruling) (es : List Exchange) → Going o k x p n xs es → ruled (pass o) es ≡ issue (command_of (at x p (seen o.method es)))
ruled_going o k x p n xs es g = ruled_at o es (plan_at o x p) g.unrefused g.plan

same_turn : (q : Outcome Order) (k : ℕ) (h : History) → Inv q k h → (y : Reply) → exchanged h.last.answer y h.exchanges ≡ exchanged (ruled q h.exchanges) y h.exchanges
same_turn q k h (open_so {o = o} {x = x} {p = p} {n = n} {xs = xs} {es = es} g) y = ap (λ (a : Ruling). exchanged a y es) (sym (ruled_going o k x p n xs es g))
same_turn q k h (over_so v) y = no_exchange h.last.answer y h.exchanges v.answer_ends ∙ sym (no_exchange (ruled q h.exchanges) y h.exchanges v.rules_over)

record After (q : Outcome Order) (k : ℕ) (es : List Exchange) (h : History) : Type 0 where
  inv : Inv q k h
  played_so : h.exchanges ≡ es

all_given : (q : Outcome Order) (rs : List Reply) (k : ℕ) (h : History) → Inv q k h → After q (k + length rs) (play q h.exchanges rs) (given_all h rs)
unfolding given_all given
all_given q [] k h i = let e : k ≡ k + 0 = omega arith in record { inv = subst (λ (j : ℕ). Inv q j h) e i; played_so = refl }
all_given q (y ∷ rs) k h i =
    let e : suc k + length rs ≡ k + suc (length rs) = omega arith in
    let a = all_given q rs (suc k) (given h y) (next_inv q k h y i) in
    record {
      inv = subst (λ (j : ℕ). Inv q j (given_all (given h y) rs)) e a.inv;
      played_so = a.played_so ∙ ap (λ (l : List Exchange). play q l rs) (same_turn q k h i y);
    }

after_all : (b : List ℕ) (rs : List Reply) → After (read_order b) (length rs) (play (read_order b) [] rs) (history b rs)
unfolding history taken take_of
after_all b rs =
    let e : 0 + length rs ≡ length rs = omega arith in
    subst (λ (j : ℕ). After (read_order b) j (play (read_order b) [] rs) (given_all (taken b) rs)) e (all_given (read_order b) rs 0 (taken b) (first (read_order b) (read_sized b)))

-- ---- what the invariant gives of the state and the latest answer

record Latest (q : Outcome Order) (k : ℕ) (h : History) : Type 0 where
  valid : valid_of h.last.state ≡ true
  phase_so : h.last.state.phase ≡ phase_in (ended h.answers)
  in_turn : length h.exchanges ≤ k
  as_ruled : length h.exchanges ≡ k → h.last.answer ≡ ruled q h.exchanges
  after_end : length h.exchanges < k → h.last.answer ≡ stop (because 13)
  so_ended : ended h.answers ≡ ending (ruled q h.exchanges)
  unmoved : (ended h.answers ≡ going → ⊥) → (y : Reply) → (given h y).last ≡ unchanged h.last.state 13
  made : (o : Order) → q ≡ pass o → (c : Command) → h.last.answer ≡ issue c → made_for o.immed o.count c ≡ pass (bytes_in h.last.cdb)
  accompanied : (o : Order) → q ≡ pass o → (c : Command) → h.last.answer ≡ issue c → Accompanied o c.op
  counts : h.last.state.count ≡ min (length (commands h.answers)) most_commands
  reports : h.last.count ≡ h.last.state.count
  given_so : commands h.answers ≡ command_in (ruled q h.exchanges) ++ answered h.exchanges
  fresh : (o : Order) → q ≡ pass o → stepwise o.method ≡ true → Every Fresh h.exchanges h.last.answer
  unskipped : (o : Order) → q ≡ pass o → Played o h.exchanges → OfAnswer (Unskipped o.immed h.exchanges) h.last.answer
  rightly : (o : Order) → q ≡ pass o → Played o h.exchanges → OfAnswer (ErasesRightly o h.exchanges) h.last.answer
  on_blank : (o : Order) → q ≡ pass o → Played o h.exchanges → OfAnswer (WritesOnBlank o h.exchanges) h.last.answer
  opening : (o : Order) → q ≡ pass o → o.method ≡ Tao → HasAudio (tracks_in o) → Played o h.exchanges → OfAnswer (OnlyOpens o h.exchanges) h.last.answer
  shows : (o : Order) → q ≡ pass o → Played o h.exchanges → ended h.answers ≡ going → latest_progress h.last.state.progress ≡ if (polling o.immed h.exchanges) (progress h.exchanges) 0

no_commands : (a : Ruling) (l : List Command) → is_end a ≡ true → l ≡ command_in a ++ l
no_commands (issue c) l e = absurd (false≢true e)
no_commands done l e = refl
no_commands (stop w) l e = refl

-- an end is no command
no_command : (P : Command → Type 0) (a : Ruling) → is_end a ≡ true → OfAnswer P a
no_command P (issue c) e = absurd (false≢true e)
no_command P done e = tt
no_command P (stop w) e = tt

module _ (o : Order) (k : ℕ) (x : Op) (p : Poll) (n : ℕ) (xs : List Ruling) (es : List Exchange) (g : Going o k x p n xs es) where
  valid_going : valid_of (waiting o x p es n) ≡ true
  unfolding valid_of
  valid_going = stood_stands o x p (seen o.method es) (named es) g.sized g.stood

  -- of the same order
  module _ (r : Order) (i : o ≡ r) where
    plan_going : left r es ≡ plan_at o x p
    plan_going = ap (λ (q : Order). left q es) (sym i) ∙ g.plan

    rightly_going : Played r es → due_at x p ≡ Blank → RightlyErased r (profile es) (disc es) (erased es)
    rightly_going w e = rightly_erased r es (due_at x p) (behind_at o x p) w plan_going (ap is_erasing e)

    on_blank_going : Played r es → (t f k : ℕ) → due_at x p ≡ write t f k → BlankBefore r (disc es) (unblank es)
    on_blank_going w t f k e = on_blank r es (due_at x p) (behind_at o x p) w plan_going (ap is_later e)

    opening_going : r.method ≡ Tao → HasAudio (tracks_in r) → Played r es → is_opening r.erase (due_at x p) ≡ true
    opening_going e a w = due_opens r es (due_at x p) (behind_at o x p) e a w plan_going

    unskipped_going : Played r es → is_poll (due_at x p) ≡ polling r.immed es
    unskipped_going w = due_poll r es (due_at x p) (behind_at o x p) w plan_going

    shows_going : Played r es → latest_progress (at x p (seen o.method es)) ≡ if (polling r.immed es) (progress es) 0
    shows_going w =
        stood_shows o x p (seen o.method es) (named es) (polling r.immed es) g.stood (unskipped_going w) ∙
        ap (λ (m : ℕ). if (polling r.immed es) m 0) (progress_seen o.method es)

latest_of : (q : Outcome Order) (k : ℕ) (h : History) → Inv q k h → Latest q k h
unfolding given
latest_of q k h (open_so {o = o} {x = x} {p = p} {n = n} {xs = xs} {es = es} g) =
    let r : ruled (pass o) es ≡ issue (command_of (at x p (seen o.method es))) = ruled_going o k x p n xs es g in
    let e = g.each in
    record {
      valid = valid_going o k x p n xs es g;
      phase_so = ap phase_in (sym g.not_ended);
      in_turn = omega arith;
      as_ruled = λ z. sym r;
      after_end = λ z. absurd (omega arith);
      so_ended = g.not_ended ∙ ap ending (sym r);
      unmoved = λ z y. absurd (z g.not_ended);
      made = λ a f c u.
          let i : o ≡ a = same_order o a f in
          let j : command_of (at x p (seen o.method es)) ≡ c = same_command _ c u in
          ap (λ (z : Order). made_for z.immed z.count c) (sym i) ∙ ap (made_for o.immed o.count) (sym j) ∙ g.bytes_made;
      accompanied = λ a f c u.
          let i : o ≡ a = same_order o a f in
          let j : command_of (at x p (seen o.method es)) ≡ c = same_command _ c u in
          subst (λ (z : Order). Accompanied z c.op) i (subst (λ (d : Command). Accompanied o d.op) j (stood_accompanied o x p (seen o.method es) (named es) g.sized g.stood));
      counts = g.counts;
      reports = refl;
      given_so = g.commands_given ∙ ap (λ (a : Ruling). command_in a ++ answered es) (sym r);
      fresh = λ a f w.
          let i : o ≡ a = same_order o a f in
          let s : stepwise o.method ≡ true = ap (λ (z : Order). stepwise z.method) i ∙ w in
          (g.fresh s, stood_fresh o x p (seen o.method es) (named es) s g.stood);
      unskipped = λ a f w. let i : o ≡ a = same_order o a f in unskipped_going o k x p n xs es g a i w;
      rightly = λ a f w. let i : o ≡ a = same_order o a f in rightly_going o k x p n xs es g a i w;
      on_blank = λ a f w. let i : o ≡ a = same_order o a f in on_blank_going o k x p n xs es g a i w;
      opening = λ a f m s w. let i : o ≡ a = same_order o a f in opening_going o k x p n xs es g a i m s w;
      shows = λ a f w z. let i : o ≡ a = same_order o a f in shows_going o k x p n xs es g a i w;
    }
latest_of q k h (over_so v) =
    record {
      valid = ended_valid h.last.state v.state_ended;
      phase_so = v.phase_so;
      in_turn = v.each;
      as_ruled = v.then;
      after_end = v.later;
      so_ended = v.so_ended;
      unmoved = λ z y. give_over h.last.state y.good y.bytes v.state_ended;
      made = λ o f c x. absurd (false≢true (ap is_end (sym x) ∙ v.answer_ends));
      accompanied = λ o f c x. absurd (false≢true (ap is_end (sym x) ∙ v.answer_ends));
      counts = v.counts;
      reports = v.reports;
      given_so = v.commands_given ∙ no_commands (ruled q h.exchanges) (answered h.exchanges) v.rules_over;
      fresh = λ o e w. (v.fresh o e w, no_command (Fresh h.exchanges) h.last.answer v.answer_ends);
      unskipped = λ o e w. no_command (Unskipped o.immed h.exchanges) h.last.answer v.answer_ends;
      rightly = λ o e w. no_command (ErasesRightly o h.exchanges) h.last.answer v.answer_ends;
      on_blank = λ o e w. no_command (WritesOnBlank o h.exchanges) h.last.answer v.answer_ends;
      opening = λ o e m s w. no_command (OnlyOpens o h.exchanges) h.last.answer v.answer_ends;
      shows = λ o e w z. absurd (not_going (ruled q h.exchanges) v.rules_over (sym v.so_ended ∙ z));
    }

-- ---- what the rules say of either kind of order block

record Ruled (q : Outcome Order) (es : List Exchange) : Type 0 where
  in_order : (rest : List Block) × (recorded es ++ rest ≡ ordered_in q)
  apart : (i j : ℕ) → i < j → j < length (occupied es) → get_or (occupied es) i 0 ≡ get_or (occupied es) j 0 → ⊥
  done_when : (ruled q es ≡ done) ↔ AllClosed q es
  stop_when : (w : Why) → (ruled q es ≡ stop w) ↔ (refusal q es ≡ found w)

refused_plays : (n : ℕ) (rs : List Reply) → play (refuse n) [] rs ≡ []
refused_plays n [] = refl
refused_plays n (y ∷ rs) = refused_plays n rs

rules_hold : (q : Outcome Order) (rs : List Reply) → Ruled q (play q [] rs)
rules_hold (pass o) rs =
    let p = played o rs in
    record { in_order = rule_order o _ p; apart = rule_apart o _ p; done_when = rule_done o _ p; stop_when = rule_stop o (play (pass o) [] rs) }
rules_hold (refuse n) rs = subst (Ruled (refuse n)) (sym (refused_plays n rs)) nothing
  where
    nothing : Ruled (refuse n) []
    nothing =
        record {
          in_order = ([], refl);
          apart = λ i j l m e. omega arith;
          done_when = (λ e. clash (cc), λ e. absurd e);
          stop_when = λ w. (λ e. let x : because n ≡ w = cc in ap found x, λ e. let x : because n ≡ w = cc in ap stop x);
        }

going_done : going ≡ as_done → ⊥
going_done e = clash (cc)

-- how the job has ended by the rules' answer
ended_done : (a : Ruling) → (ending a ≡ as_done) ↔ (a ≡ done)
ended_done (issue c) = (λ e. clash (cc), λ e. clash (cc))
ended_done done = (λ e. refl, λ e. refl)
ended_done (stop w) = (λ e. clash (cc), λ e. clash (cc))

ended_stop : (w : Why) (a : Ruling) → (ending a ≡ as_stop w) ↔ (a ≡ stop w)
ended_stop w (issue c) = (λ e. clash (cc), λ e. clash (cc))
ended_stop w done = (λ e. clash (cc), λ e. clash (cc))
ended_stop w (stop x) = (λ e. let z : x ≡ w = cc in ap stop z, λ e. let z : x ≡ w = cc in ap as_stop z)

waiting_one : (a : Ruling) → ending a ≡ going → length (command_in a) ≡ 1
waiting_one (issue c) x = refl
waiting_one done x = clash (cc)
waiting_one (stop w) x = clash (cc)

answered_length : (es : List Exchange) → length (answered es) ≡ length es
answered_length [] = refl
answered_length (e ∷ es) = ap suc (answered_length es)

unpolled_append : (cs ds : List Command) → unpolled (cs ++ ds) ≡ unpolled cs + unpolled ds
unpolled_append [] ds = omega arith
unpolled_append (c ∷ cs) ds = go (is_poll c.op) (unpolled_append cs ds)
  where
    go : (b : Bool) → unpolled (cs ++ ds) ≡ unpolled cs + unpolled ds → if b (unpolled (cs ++ ds)) (suc (unpolled (cs ++ ds))) ≡ if b (unpolled cs) (suc (unpolled cs)) + unpolled ds
    go true e = e
    go false e = omega arith

-- ---- demand 3

module _ (b : List ℕ) (rs : List Reply) where
  abbrev h : History
  h = history b rs

  is_played : h.exchanges ≡ play (read_order b) [] rs
  is_played = (after_all b rs).played_so

  latest_here : Latest (read_order b) (length rs) h
  latest_here = latest_of (read_order b) (length rs) h (after_all b rs).inv

  -- part 7
  module _ (o : Order) (e : read_order b ≡ pass o) where
    abbrev es : List Exchange
    es = play (pass o) [] rs

    same_exchanges : h.exchanges ≡ es
    same_exchanges = is_played ∙ ap (λ (q : Outcome Order). play q [] rs) e

    played_here : Played o h.exchanges
    played_here = subst (Played o) (sym same_exchanges) (played o rs)

    same_ruling : ruled (read_order b) h.exchanges ≡ ruled (pass o) es
    same_ruling = ap (λ (q : Outcome Order). ruled q h.exchanges) e ∙ ap (ruled (pass o)) same_exchanges

    so_ended : ended h.answers ≡ ending (ruled (pass o) es)
    so_ended = latest_here.so_ended ∙ ap ending same_ruling

    given_so : commands h.answers ≡ command_in (ruled (pass o) es) ++ answered es
    given_so = latest_here.given_so ∙ ap (λ (a : Ruling). command_in a ++ answered h.exchanges) same_ruling ∙ ap (λ (l : List Exchange). command_in (ruled (pass o) es) ++ answered l) same_exchanges

    given_unpolled : unpolled (commands h.answers) ≡ unpolled (command_in (ruled (pass o) es)) + unpolled (answered es)
    given_unpolled = ap unpolled given_so ∙ unpolled_append (command_in (ruled (pass o) es)) (answered es)

    given_length : length (commands h.answers) ≡ length (command_in (ruled (pass o) es)) + length es
    given_length =
        let a = length-append (command_in (ruled (pass o) es)) (answered es) in
        let c = ap length given_so in
        let d = answered_length es in
        omega arith

    all_good_by : Progressed o (length rs) es → AllGood o (length rs) es h.answers
    all_good_by (under_way x l p c n) =
        let a = given_unpolled in
        let i : min (unpolled (answered es) + 1) (exact_count o es) ≡ unpolled (answered es) + 1 = omega arith in
        record {
          exact = λ y. absurd (going_done (sym (so_ended ∙ x) ∙ y));
          given_count = omega arith ∙ sym (if_no _ _ p ∙ i);
          done_at = λ y z. absurd (omega arith);
          not_before = λ y. so_ended ∙ x;
          not_polling = λ y. absurd (false≢true (sym p ∙ y));
          each_reply = λ y. l;
          no_polls = λ f.
              let u = no_polls o es f (played o rs) in
              let g = given_length in
              let w = waiting_one (ruled (pass o) es) x in
              (p, (omega arith, omega arith));
        }
    all_good_by (polled x l p c n) =
        let a = given_unpolled in
        record {
          exact = λ y. absurd (going_done (sym (so_ended ∙ x) ∙ y));
          given_count = omega arith ∙ sym (if_yes _ _ p);
          done_at = λ y z. absurd (false≢true (sym z ∙ p));
          not_before = λ y. so_ended ∙ x;
          not_polling = λ y. so_ended ∙ x;
          each_reply = λ y. l;
          no_polls = λ f. absurd (false≢true (sym (never_polling es) ∙ ap (λ (z : Bool). polling z es) (sym f) ∙ p));
        }
    all_good_by (at_end x l p c n) =
        let a = given_unpolled in
        let i : min (unpolled (answered es) + 1) (exact_count o es) ≡ exact_count o es = omega arith in
        record {
          exact = λ y. omega arith;
          given_count = omega arith ∙ sym (if_no _ _ p ∙ i);
          done_at = λ y z. so_ended ∙ x;
          not_before = λ y. absurd (omega arith);
          not_polling = λ y. absurd (false≢true (sym p ∙ y));
          each_reply = λ y. absurd (is_done_over (sym so_ended ∙ y));
          no_polls = λ f.
              let u = no_polls o es f (played o rs) in
              let g = given_length in
              let w : length (command_in (ruled (pass o) es)) ≡ 0 = ap (λ (r : Ruling). length (command_in r)) ((ended_done (ruled (pass o) es)).0 x) in
              (p, (omega arith, omega arith));
        }
      where
        is_done_over : ending (ruled (pass o) es) ≡ going → ⊥
        is_done_over y = going_done (sym y ∙ x)

  good_ends : (o : Order) → read_order b ≡ pass o → AllWell h.exchanges → refusal (pass o) h.exchanges ≡ none → AllGood o (length rs) h.exchanges h.answers
  good_ends o e g u =
      subst (λ (l : List Exchange). AllGood o (length rs) l h.answers) (sym (same_exchanges o e))
      (all_good_by o e (rule_good o rs (read_sized b o e).all (subst AllWell (same_exchanges o e) g) (ap (refusal (pass o)) (sym (same_exchanges o e)) ∙ u)))

-- the two recipes, of the same replies but those to function 1
module _ (b : List ℕ) (rs : List Reply) (o : Order) (e : read_order b ≡ pass o) (q : o.recipe ≡ Old) (c : List ℕ) (f : read_order c ≡ pass (under New o)) where
  abbrev old : List Exchange
  old = (history b rs).exchanges

  abbrev ys : List Reply
  ys = replies_in (others old)

  -- the order is the old one by its recipe
  is_old : o ≡ under Old o
  is_old = ap (λ (r : Recipe). under r o) q

  played_old : Played (under Old o) old
  played_old = subst (λ (z : Order). Played z old) is_old (played_here b rs o e)

  others_there : (history c ys).exchanges ≡ others old
  others_there = same_exchanges c ys (under New o) f ∙ others_played o old played_old

  ended_old : ended (history b rs).answers ≡ ending (ruled (pass (under Old o)) old)
  ended_old = so_ended b rs o e ∙ ap (λ (z : Order). ending (ruled (pass z) (play (pass o) [] rs))) is_old ∙ ap (λ (l : List Exchange). ending (ruled (pass (under Old o)) l)) (sym (same_exchanges b rs o e))

  ended_new : ended (history c ys).answers ≡ ending (ruled (pass (under New o)) (others old))
  ended_new = so_ended c ys (under New o) f ∙ ap (λ (l : List Exchange). ending (ruled (pass (under New o)) l)) (others_played o old played_old)

  -- the mode data hangs on the recipe in SAO alone
  page_same : o.method ≡ Tao → (k : Kind) → mode_data (under New o) k ≡ mode_data o k
  unfolding mode_data page_fault mode_bytes page valid_order
  page_same t k = rw t

  pub but_function_1 : o.method ≡ Tao → ButFunction1 o (history b rs) (history c ys)
  but_function_1 t =
      record {
        exchanges = others_there;
        bytes = ap (bytes_given o) others_there;
        page = page_same t;
        as_well_done = λ d. ended_new ∙ (ended_done (ruled (pass (under New o)) (others old))).1 (others_done o old played_old ((ended_done (ruled (pass (under Old o)) old)).0 (sym ended_old ∙ d)));
        as_well_stopped = λ w d l. ended_new ∙ (ended_stop w (ruled (pass (under New o)) (others old))).1 (others_stop o old played_old w ((ended_stop w (ruled (pass (under Old o)) old)).0 (sym ended_old ∙ d)) l);
      }

module _ (b : List ℕ) (rs : List Reply) where
  -- of every order block and every list of replies
  pub whole : Whole b rs (history b rs)
  whole =
      let l = latest_here b rs in
      let r : Ruled (read_order b) (history b rs).exchanges = subst (Ruled (read_order b)) (sym (is_played b rs)) (rules_hold (read_order b) rs) in
      let t : ended (history b rs).answers ≡ ending (ruled (read_order b) (history b rs).exchanges) = l.so_ended in
      let d = ended_done (ruled (read_order b) (history b rs).exchanges) in
      let x : (w : Why) → (ended (history b rs).answers ≡ as_stop w) ↔ (refusal (read_order b) (history b rs).exchanges ≡ found w) = λ w. let i = ended_stop w (ruled (read_order b) (history b rs).exchanges) in (λ e. (r.stop_when w).0 (i.0 (sym t ∙ e)), λ e. t ∙ i.1 ((r.stop_when w).1 e)) in
      record {
        played = is_played b rs;
        in_turn = l.in_turn;
        as_ruled = l.as_ruled;
        after_end = l.after_end;
        unmoved = l.unmoved;
        made = l.made;
        accompanied = l.accompanied;
        in_order = r.in_order;
        apart = r.apart;
        done_when = (λ e. r.done_when.0 (d.0 (sym t ∙ e)), λ w. t ∙ d.1 (r.done_when.1 w));
        stop_when = x;
        counted = l.counts;
        reported = l.reports ∙ l.counts;
        all_good = good_ends b rs;
        is_valid = l.valid;
        never_stale = l.fresh;
        room_lasts = λ o e m s f. room_lasts o (history b rs).exchanges m (read_sized b o e).all (played_here b rs o e) s (ap (λ (q : Outcome Order). refusal q (history b rs).exchanges) (sym e) ∙ (x (because 10)).0 f);
        never_skips = λ o e. (each_unskipped o (history b rs).exchanges (played_here b rs o e), l.unskipped o e (played_here b rs o e));
        erases_rightly = λ o e. (each_rightly o (history b rs).exchanges (played_here b rs o e), l.rightly o e (played_here b rs o e));
        writes_on_blank = λ o e. (each_on_blank o (history b rs).exchanges (played_here b rs o e), l.on_blank o e (played_here b rs o e));
        only_opens = λ o e m s. (each_opens o (history b rs).exchanges m s (played_here b rs o e), l.opening o e m s (played_here b rs o e));
        but_function_1 = λ o e t q c f. but_function_1 b rs o e q c f t;
        phase_so = l.phase_so;
        shows = λ o e z. l.shows o e (played_here b rs o e) z;
      }

-- ---- what the calls owe, from their equations

pub takes : (b : List ℕ) (s : Step) → next_in s ≡ take_of b → Takes b s
unfolding history given_all taken
takes b s e =
    record {
      step = e;
      begins = record { is_last = e; whole = whole b [] };
      script_length = λ o q. script_length o (read_sized b o q).all;
      scripts_agree = λ o q. script_others o;
      newer = λ o q. newer_block b o q;
      needs = λ o q. needs_all o;
      can_pass = λ o q ok p d su. can_pass o (read_sized b o q) ok p d su;
    }

given_snoc : (h : History) (rs : List Reply) (y : Reply) → given_all h (rs ++ (y ∷ [])) ≡ given (given_all h rs) y
unfolding given_all
given_snoc h [] y = refl
given_snoc h (x ∷ rs) y = given_snoc (given h x) rs y

pub gives : (r : Recorder) (good : Bool) (d : List ℕ) (s : Step) → next_in s ≡ give_of r good d → Gives r good d s
unfolding history given
gives r good d s e =
    record {
      step = e;
      goes_on = λ b rs q.
          record {
            is_last = e ∙ ap (λ (z : Recorder). give_of z good d) q ∙ ap (λ (h : History). h.last) (sym (given_snoc (taken b) rs (reply_of good d)));
            whole = whole b (rs ++ (reply_of good d ∷ []));
          };
      made = λ c q. give_made r good d c (ap (λ (n : Next). n.answer) (sym e) ∙ q) ∙ ap (λ (n : Next). pass (bytes_in n.cdb)) (sym e);
    }
