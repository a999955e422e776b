-- All replies good and passing: the rules' end comes after the script's length, and not before. Part 7.
use mathlib.Core.Path.{◌≡◌, refl, sym, ap, subst, ◌∙◌}
use mathlib.Core.Bool.{Bool, true, false, ◌&&◌, ◌||◌}
use mathlib.Core.List.{List, [], ◌∷◌}
use Prim.Native.Nat.{ℕ, suc, ◌+◌, ◌*◌, ◌≤◌, ◌<◌}
use native.Mathlib.Omega.{arith}
use borrow.Author.Tests.{eqb-true}
use lib.Dec.{eqb}
use lib.ListN.{length}
use Rattle.basics.specs.Bytes.{if}
use Rattle.mmc.specs.Refusals.{Outcome, pass}
use Rattle.mmc.specs.Order.{tracks_in}
use Rattle.mmc.specs.ReplyBlock.{Reply}
use Rattle.mmc.specs.declared.order.Order.{Order}
use Rattle.recorder.specs.declared.script.Op.{Op}
use Rattle.recorder.specs.Answers.{Ruling, issue, done, stop}
use Rattle.recorder.specs.Script.{code, asks_ready, is_poll, is_erasing, takes_immed, is_polled, before_tracks, each_track, script}
use Rattle.recorder.specs.Exchanges.{Exchange, ends, polling, erased}
use Rattle.recorder.specs.Rules.{Judgement, move, judged, left, none, refused_by, first_refused, ruled, exchanged, play}
use Rattle.recorder.specs.History.{command_in, going, as_done, ending, exact_count, AllWell, unpolled, answered}
use Rattle.std.proofs.lemmas.Bool.{false≢true}
use Rattle.recorder.proofs.Lists.{if_yes, if_no, never, none_found, clash}
use Rattle.recorder.proofs.Turns.{made, Played, nothing, then, played, Turn, repeats, refuses, works, polls_begin, erases_first, asks, polls_on, polls_end, turn}
use Rattle.recorder.proofs.Plans.{Unclosed, Scripted, Shape, working}
use Rattle.recorder.proofs.Scripts.{Past, script_past, script_length, scripted}
use Rattle.recorder.proofs.Rulings.{unrefused_last, ruled_at, plan_shape, rule_done, due_poll}
use Rattle.recorder.proofs.Erasing.{Facts, facts, Stage, first, asked, wiping, asking, hearing, anew, past, not_erasing, stage, rightly_erased}

abbrev pub is_end : Ruling → Bool
is_end (issue c) = false
is_end done = true
is_end (stop w) = true

pub not_going : (a : Ruling) → is_end a ≡ true → ending a ≡ going → ⊥
not_going (issue c) t e = false≢true t
not_going done t e = clash (cc)
not_going (stop w) t e = clash (cc)

-- ---- each reply makes an exchange until the end

pub record Timed (q : Outcome Order) (k : ℕ) (es : List Exchange) : Type 0 where
  pub at_most : length es ≤ k
  pub exact : ending (ruled q es) ≡ going → length es ≡ k

pub timed_turn : (q : Outcome Order) (k : ℕ) (es : List Exchange) (y : Reply) → Timed q k es → Timed q (suc k) (exchanged (ruled q es) y es)
timed_turn q k es y t = go (ruled q es) refl
  where
    go : (a : Ruling) → ruled q es ≡ a → Timed q (suc k) (exchanged a y es)
    go (issue c) e = let i = t.exact (ap ending e) in record { at_most = omega arith; exact = λ z. omega arith }
    go done e = let m = t.at_most in record { at_most = omega arith; exact = λ z. absurd (not_going done refl (ap ending (sym e) ∙ z)) }
    go (stop w) e = let m = t.at_most in record { at_most = omega arith; exact = λ z. absurd (not_going (stop w) refl (ap ending (sym e) ∙ z)) }

timed_on : (o : Order) (rs : List Reply) (k : ℕ) (es : List Exchange) → Timed (pass o) k es → Timed (pass o) (k + length rs) (play (pass o) es rs)
timed_on o [] k es t = let e : k ≡ k + 0 = omega arith in subst (λ (j : ℕ). Timed (pass o) j es) e t
timed_on o (y ∷ rs) k es t =
    let e : suc k + length rs ≡ k + suc (length rs) = omega arith in
    subst (λ (j : ℕ). Timed (pass o) j (play (pass o) es (y ∷ rs))) e (timed_on o rs (suc k) (exchanged (ruled (pass o) es) y es) (timed_turn (pass o) k es y t))

timed : (o : Order) (rs : List Reply) → Timed (pass o) (length rs) (play (pass o) [] rs)
timed o rs =
    let e : 0 + length rs ≡ length rs = omega arith in
    let z : 0 ≤ 0 = omega arith in
    subst (λ (j : ℕ). Timed (pass o) j (play (pass o) [] rs)) e (timed_on o rs 0 [] (record { at_most = z; exact = λ q. refl }))

-- ---- the operations that are no polls

abbrev pub counted : List Op → ℕ
counted [] = 0
counted (x ∷ l) = if (is_poll x) (counted l) (suc (counted l))

abbrev weight : Op → ℕ
weight x = if (is_poll x) 0 1

weighed : (b : Bool) (n : ℕ) → if b n (suc n) ≡ n + if b 0 1
weighed true n = omega arith
weighed false n = omega arith

taken : (x : Op) (l : List Op) → is_poll x ≡ false → counted l + weight x ≡ counted (x ∷ l)
taken x l n = sym (weighed (is_poll x) (counted l))

-- ---- the erasings among them, each of which brings a 51h more

abbrev one : Bool → ℕ
one b = if b 1 0

abbrev erasings : List Op → ℕ
erasings [] = 0
erasings (x ∷ l) = one (is_erasing x) + erasings l

none_past : (l : List Op) → Past l → erasings l ≡ 0
none_past [] z = refl
none_past (x ∷ l) z =
    let i = none_past l z.1 in
    let a : one (is_erasing x) ≡ 0 = ap one (not_erasing x z.0) in
    omega arith

-- each reply takes one of them off what is left, if it answers one, or puts two in front
taken_turn : (p b q : Bool) (x : Op) (l : List Op) (j : Judgement) → Turn p x b q j → b || asks_ready x ≡ true → refused_by j ≡ none → counted (move j (x ∷ l)) + weight x + 2 * erasings (x ∷ l) ≡ counted (x ∷ l) + 2 * (one (is_erasing x) + erasings (move j (x ∷ l)))
taken_turn p b q x l j (repeats n) g u = absurd (false≢true (sym n ∙ g))
taken_turn p b q x l j (refuses k) g u = absurd (none_found _ (sym u))
taken_turn p b q x l j (works n) g u = let a = taken x l n in omega arith
taken_turn p b q x l j (polls_begin n) g u = let a = taken x l n in omega arith
taken_turn p b q x l j erases_first g u = omega arith
taken_turn p b q x l j asks g u = omega arith
taken_turn p b q x l j polls_on g u = omega arith
taken_turn p b q x l j polls_end g u = omega arith

-- a good A1h is the first
erased_more : (o : Order) (es : List Exchange) (x : Op) (l : List Op) (y : Reply) → Played o es → left o es ≡ x ∷ l → (y.good || asks_ready x) ≡ true → one (erased (made o es x y ∷ es)) ≡ one (is_erasing x) + one (erased es)
erased_more o es x l y p e g = go (is_erasing x) refl y.good refl
  where
    not_asking : is_erasing x ≡ true → asks_ready x ≡ false
    not_asking i = ap (λ (k : ℕ). eqb k 0x00) (eqb-true (code x) 0xA1 i)

    go : (a : Bool) → is_erasing x ≡ a → (b : Bool) → y.good ≡ b → one ((b && a) || erased es) ≡ one a + one (erased es)
    go true i true j = let n : one (erased es) ≡ 0 = ap one (rightly_erased o es x l p e i).once in omega arith
    go true i false j = absurd (false≢true (sym (ap (λ (b : Bool). b || asks_ready x) j ∙ not_asking i) ∙ g))
    go false i true j = omega arith
    go false i false j = omega arith

-- the numbers of one reply more: answered (u), left (c), A1h answered (k) and left (e), before and after
sum_up : (s u v w c d m n k j i e f g h : ℕ) → u + c ≡ s + 2 * (k + e) → c ≡ m → e ≡ g → d ≡ n → f ≡ h → n + w + 2 * g ≡ m + 2 * (i + h) → v ≡ u + w → j ≡ i + k → v + d ≡ s + 2 * (j + f)
sum_up s u v w c d m n k j i e f g h p0 p1 p2 p3 p4 p5 p6 p7 = omega arith

-- what is answered and what is left are together the script, and 2 more for an erasing
all_taken : (o : Order) (es : List Exchange) → Played o es → AllWell es → first_refused o es ≡ none → unpolled (answered es) + counted (left o es) ≡ counted (script o) + 2 * (one (erased es) + erasings (left o es))
all_taken o es nothing g v = let a = none_past (before_tracks o (each_track o 0 (tracks_in o))) (script_past o) in omega arith
all_taken o es (then {es = before} {x = x} {l = l} p u e y) g v =
    let j : Judgement = judged o before (made o before x y) in
    sum_up _ _ _ (weight x) _ _ (counted (x ∷ l)) (counted (move j (x ∷ l))) (one (erased before)) _ (one (is_erasing x)) _ _ (erasings (x ∷ l)) (erasings (move j (x ∷ l)))
    (all_taken o before p g.1 u) (ap counted e) (ap erasings e) (ap (λ (m : List Op). counted (move j m)) e) (ap (λ (m : List Op). erasings (move j m)) e)
    (taken_turn _ y.good _ x l _ (turn o before x y) g.0 (unrefused_last o before (made o before x y) u v))
    (weighed (is_poll x) (unpolled (answered before)))
    (erased_more o before x l y p e g.0)

-- where an A1h is due, more than it and its 51h is left
some_left : (l : List Op) → Scripted l → Unclosed l → 1 ≤ counted l
some_left [] z u = absurd (omega arith)
some_left (y ∷ l) z u = let a : counted (y ∷ l) ≡ suc (counted l) = if_no _ _ z.1.0 in omega arith

owed : (o : Order) (f : Facts) (b : Bool) (x : Op) (l : List Op) → Stage o f (x ∷ l) → Shape b (x ∷ l) → 2 * erasings (x ∷ l) + weight x ≤ counted (x ∷ l)
owed o f b x l (first {l = k} z n u) h = let a = none_past k z in omega arith
owed o f b x l (asked {l = k} z n u) h = let a = none_past k z in omega arith
owed o f b x l (wiping {l = k} z w) (working r) = let a = none_past k z in let c = some_left k r.1.1.1.1 r.0 in omega arith
owed o f b x l (asking {l = k} z n w) h = let a = none_past k z in omega arith
owed o f b x l (hearing {l = k} z n w) h = let a = none_past k z in omega arith
owed o f b x l (anew {l = k} z n w) h = let a = none_past k z in omega arith
owed o f b x l (past z n w) h = let a = none_past (x ∷ l) z in let c = weighed (is_poll x) (counted l) in omega arith

-- no poll stands in the script
script_counted : (l : List Op) → Scripted l → counted l ≡ length l
script_counted [] z = refl
script_counted (x ∷ l) z = if_no _ _ z.1.0 ∙ ap suc (script_counted l z.1.1)

-- ---- without the flag there is no polling, and no poll

pub never_polling : (es : List Exchange) → polling false es ≡ false
never_polling [] = refl
never_polling (e ∷ es) = go e.reply.good (is_polled false e.command.op) (never (takes_immed e.command.op)) (ends es e) (polling false es) (never_polling es)
  where
    go : (g b : Bool) → b ≡ false → (c p : Bool) → p ≡ false → if (g && b) true (if c false p) ≡ false
    go true b n true p q = if_no _ _ n
    go true b n false p q = if_no _ _ n ∙ q
    go false b n true p q = refl
    go false b n false p q = q

all_unpolled : (o : Order) (es : List Exchange) → polling o.immed es ≡ false → Played o es → ((ds : List Exchange) → polling o.immed ds ≡ false) → unpolled (answered es) ≡ length es
all_unpolled o es f nothing n = refl
all_unpolled o es f (then {es = before} {x = x} {l = l} p u e y) n =
    if_no _ _ (due_poll o before x l p e ∙ n before) ∙ ap suc (all_unpolled o before (n before) p n)

pub no_polls : (o : Order) (es : List Exchange) → o.immed ≡ false → Played o es → unpolled (answered es) ≡ length es
no_polls o es f p = all_unpolled o es (none es) p none
  where
    none : (ds : List Exchange) → polling o.immed ds ≡ false
    none ds = ap (λ (b : Bool). polling b ds) f ∙ never_polling ds

-- ---- part 7, over the rules: a command of the script is given, and what was answered of it is less than the count; a poll is given; or
-- the job is done, and all of the script is answered

pub data Progressed (o : Order) (k : ℕ) (es : List Exchange) : Type 0 where
  under_way : ending (ruled (pass o) es) ≡ going → length es ≡ k → polling o.immed es ≡ false → unpolled (command_in (ruled (pass o) es)) ≡ 1 → unpolled (answered es) < exact_count o es → Progressed o k es
  polled : ending (ruled (pass o) es) ≡ going → length es ≡ k → polling o.immed es ≡ true → unpolled (command_in (ruled (pass o) es)) ≡ 0 → unpolled (answered es) ≤ exact_count o es → Progressed o k es
  at_end : ending (ruled (pass o) es) ≡ as_done → length es ≤ k → polling o.immed es ≡ false → unpolled (command_in (ruled (pass o) es)) ≡ 0 → unpolled (answered es) ≡ exact_count o es → Progressed o k es

pub rule_good : (o : Order) (rs : List Reply) → length (tracks_in o) ≡ o.count → AllWell (play (pass o) [] rs) → first_refused o (play (pass o) [] rs) ≡ none → Progressed o (length rs) (play (pass o) [] rs)
rule_good o rs n g u = go (left o es) refl (polling o.immed es) refl
  where
    es : List Exchange
    es = play (pass o) [] rs

    doubled : (b : Bool) → 2 * one b ≡ if b 2 0
    doubled true = refl
    doubled false = refl

    total : unpolled (answered es) + counted (left o es) ≡ exact_count o es + 2 * erasings (left o es)
    total =
        let a = all_taken o es (played o rs) g u in
        let b = script_counted (script o) (scripted o) in
        let c = script_length o n in
        let d = doubled (erased es) in
        omega arith

    owing : (x : Op) (l : List Op) → left o es ≡ x ∷ l → 2 * erasings (left o es) + weight x ≤ counted (left o es)
    owing x l e =
        let a = owed o (facts es) (polling o.immed es) x l (subst (Stage o (facts es)) e (stage o es (played o rs))) (subst (Shape (polling o.immed es)) e (plan_shape o es (played o rs))) in
        let b = ap erasings e in
        let c = ap counted e in
        omega arith

    given : (x : Op) (l : List Op) → left o es ≡ x ∷ l → unpolled (command_in (ruled (pass o) es)) ≡ weight x
    given x l e = ap (λ (a : Ruling). unpolled (command_in a)) (ruled_at o es (x ∷ l) u e)

    go : (l : List Op) → left o es ≡ l → (b : Bool) → polling o.immed es ≡ b → Progressed o (length rs) es
    go [] e b q =
        let a = total in
        let c : counted (left o es) ≡ 0 = ap counted e in
        let d : erasings (left o es) ≡ 0 = ap erasings e in
        at_end (ap ending (ruled_at o es [] u e)) (timed o rs).at_most ((rule_done o es (played o rs)).0 (ruled_at o es [] u e)).1.1 (ap (λ (a : Ruling). unpolled (command_in a)) (ruled_at o es [] u e)) (omega arith)
    go (x ∷ l) e true q =
        let a = total in
        let d : ending (ruled (pass o) es) ≡ going = ap ending (ruled_at o es (x ∷ l) u e) in
        let i : is_poll x ≡ true = due_poll o es x l (played o rs) e ∙ q in
        let w = owing x l e in
        polled d ((timed o rs).exact d) q (given x l e ∙ if_yes _ _ i) (omega arith)
    go (x ∷ l) e false q =
        let a = total in
        let d : ending (ruled (pass o) es) ≡ going = ap ending (ruled_at o es (x ∷ l) u e) in
        let i : is_poll x ≡ false = due_poll o es x l (played o rs) e ∙ q in
        let w = owing x l e in
        let c : weight x ≡ 1 = if_no _ _ i in
        under_way d ((timed o rs).exact d) q (given x l e ∙ if_no _ _ i) (omega arith)
