-- What the rules make of every order and every list of replies, no job in sight: parts 2, 4 and 5.
use mathlib.Core.Path.{◌≡◌, refl, sym, ap, subst, ◌∙◌}
use mathlib.Core.Logic.{◌↔◌}
use mathlib.Core.Bool.{Bool, false}
use mathlib.Core.List.{List, [], ◌∷◌, ◌++◌, append-nil}
use native.Mathlib.Omega.{arith}
use lib.ListN.{length, length-append}
use Rattle.mmc.specs.Refusals.{pass}
use Rattle.mmc.specs.declared.order.Order.{Order}
use Rattle.recorder.specs.declared.script.Op.{Op}
use Rattle.recorder.specs.Answers.{Why, done, stop}
use Rattle.recorder.specs.Script.{is_poll, gather, Block, ordered, blocks_in, closing_in, closings}
use Rattle.recorder.specs.Exchanges.{Exchange, recorded, closed, polling}
use Rattle.recorder.specs.Rules.{Judgement, move, judged, left, Found, none, found, or_else, refused_by, first_refused, answer_to, ruled}
use Rattle.recorder.specs.History.{Each, Unskipped}
use Rattle.std.proofs.lemmas.Bool.{false≢true}
use Rattle.recorder.proofs.Lists.{clash, none_found}
use Rattle.recorder.proofs.Turns.{made, Played, nothing, then, Turn, repeats, refuses, works, polls_begin, erases_first, asks, polls_on, polls_end, turn}
use Rattle.recorder.proofs.Plans.{kept, blocks_ignore, closings_ignore, Shape, working, asking, hearing, shape}
use Rattle.recorder.proofs.Scripts.{script_blocks, scripted}

-- one exchange more: it is the first refused if none was before
pub refused_next : (o : Order) (es : List Exchange) (e : Exchange) (f : Found) → first_refused o es ≡ none → refused_by (judged o es e) ≡ f → first_refused o (e ∷ es) ≡ f
refused_next o es e f u q = ap (λ (x : Found). or_else x (refused_by (judged o es e))) u ∙ q

-- and back: it wasn't
pub unrefused_last : (o : Order) (es : List Exchange) (e : Exchange) → first_refused o es ≡ none → first_refused o (e ∷ es) ≡ none → refused_by (judged o es e) ≡ none
unrefused_last o es e u v = sym (refused_next o es e (refused_by (judged o es e)) u refl) ∙ v

-- ---- a refused operation is still there

abbrev Some : List Op → Type 0
Some [] = ⊥
Some (x ∷ l) = Unit {0}

held_turn : (p b q : Bool) (x : Op) (l : List Op) (j : Judgement) (w : Why) → Turn p x b q j → refused_by j ≡ found w → Some (move j (x ∷ l))
held_turn p b q x l j w (repeats n) e = tt
held_turn p b q x l j w (refuses k) e = tt
held_turn p b q x l j w (works n) e = absurd (none_found w e)
held_turn p b q x l j w (polls_begin n) e = tt
held_turn p b q x l j w erases_first e = tt
held_turn p b q x l j w asks e = absurd (none_found w e)
held_turn p b q x l j w polls_on e = tt
held_turn p b q x l j w polls_end e = absurd (none_found w e)

held : (o : Order) (es : List Exchange) (w : Why) → Played o es → first_refused o es ≡ found w → Some (left o es)
held o es w nothing f = absurd (none_found w f)
held o es w (then {es = before} {x = x} {l = l} p u e y) f =
    subst (λ (m : List Op). Some (move (judged o before (made o before x y)) m)) (sym e)
    (held_turn _ y.good _ x l _ w (turn o before x y) (sym (refused_next o before (made o before x y) (refused_by (judged o before (made o before x y))) u refl) ∙ f))

-- where nothing is left, nothing was refused
left_unrefused : (o : Order) (es : List Exchange) → Played o es → left o es ≡ [] → first_refused o es ≡ none
left_unrefused o es p e = go (first_refused o es) refl
  where
    go : (f : Found) → first_refused o es ≡ f → f ≡ none
    go none q = refl
    go (found w) q = absurd (subst Some e (held o es w p q))

-- ---- the answer

pub is_done : (o : Order) (es : List Exchange) → ruled (pass o) es ≡ done → (first_refused o es ≡ none) × (left o es ≡ [])
is_done o es e = go (first_refused o es) (left o es) e
  where
    go : (f : Found) (l : List Op) → answer_to o es f l ≡ done → (f ≡ none) × (l ≡ [])
    go (found w) l e = clash (cc)
    go none [] e = (refl, refl)
    go none (x ∷ l) e = clash (cc)

pub done_left : (o : Order) (es : List Exchange) → ruled (pass o) es ≡ done → left o es ≡ []
done_left o es e = (is_done o es e).1

-- by what is left where none is refused, and at a refusal
pub ruled_at : (o : Order) (es : List Exchange) (l : List Op) → first_refused o es ≡ none → left o es ≡ l → ruled (pass o) es ≡ answer_to o es none l
ruled_at o es l u e = ap (λ (f : Found). answer_to o es f (left o es)) u ∙ ap (answer_to o es none) e

pub ruled_stop : (o : Order) (es : List Exchange) (w : Why) → first_refused o es ≡ found w → ruled (pass o) es ≡ stop w
ruled_stop o es w u = ap (λ (f : Found). answer_to o es f (left o es)) u

-- ---- part 2

blocks_kept : (o : Order) (es : List Exchange) → Played o es → recorded es ++ gather blocks_in (left o es) ≡ ordered o
blocks_kept o es p = kept blocks_in blocks_ignore o es p ∙ script_blocks o

pub rule_order : (o : Order) (es : List Exchange) → Played o es → (rest : List Block) × (recorded es ++ rest ≡ ordered o)
rule_order o es p = (gather blocks_in (left o es), blocks_kept o es p)

-- ---- part 4

nothing_left : (b : Bool) (l : List Op) → Shape b l → b ≡ false → length (gather closing_in l) ≡ 0 → l ≡ []
nothing_left b [] z f e = refl
nothing_left b (x ∷ l) (working z) f e = let w = z.0 in absurd (omega arith)
nothing_left b (x ∷ l) (asking z) f e = absurd (false≢true (sym f))
nothing_left b (x ∷ l) (hearing z) f e = absurd (false≢true (sym f))

-- no polling is under way where nothing is left
calm_end : (b : Bool) → Shape b [] → b ≡ false
calm_end b (working z) = refl

pub plan_shape : (o : Order) (es : List Exchange) → Played o es → Shape (polling o.immed es) (left o es)
plan_shape o es p = shape o es (scripted o) p

pub rule_done : (o : Order) (es : List Exchange) → Played o es → (ruled (pass o) es ≡ done) ↔ ((recorded es ≡ ordered o) × ((closed es ≡ closings o) × (polling o.immed es ≡ false)))
rule_done o es p = (there, λ w. back w.1.0 w.1.1)
  where
    closings_kept : closed es ++ gather closing_in (left o es) ≡ closings o
    closings_kept = kept closing_in closings_ignore o es p

    there : ruled (pass o) es ≡ done → (recorded es ≡ ordered o) × ((closed es ≡ closings o) × (polling o.immed es ≡ false))
    there t =
        let e : left o es ≡ [] = done_left o es t in (
          sym (append-nil (recorded es)) ∙ ap (λ (m : List Op). recorded es ++ gather blocks_in m) (sym e) ∙ blocks_kept o es p,
          (
            sym (append-nil (closed es)) ∙ ap (λ (m : List Op). closed es ++ gather closing_in m) (sym e) ∙ closings_kept,
            calm_end (polling o.immed es) (subst (Shape (polling o.immed es)) e (plan_shape o es p)),
          ),
        )

    back : closed es ≡ closings o → polling o.immed es ≡ false → ruled (pass o) es ≡ done
    back c f =
        let z : length (gather closing_in (left o es)) ≡ 0 = omega (arith, ap length closings_kept, ap length c, length-append (closed es) (gather closing_in (left o es))) in
        let e : left o es ≡ [] = nothing_left (polling o.immed es) (left o es) (plan_shape o es p) f z in
        ruled_at o es [] (left_unrefused o es p e) e

-- ---- a poll is due exactly while a polling is under way

head_poll : (b : Bool) (x : Op) (l : List Op) → Shape b (x ∷ l) → is_poll x ≡ b
head_poll b x l (working z) = z.1.0
head_poll b x l (asking z) = refl
head_poll b x l (hearing z) = refl

pub due_poll : (o : Order) (es : List Exchange) (x : Op) (l : List Op) → Played o es → left o es ≡ x ∷ l → is_poll x ≡ polling o.immed es
due_poll o es x l p e = head_poll (polling o.immed es) x l (subst (Shape (polling o.immed es)) e (plan_shape o es p))

pub each_unskipped : (o : Order) (es : List Exchange) → Played o es → Each (Unskipped o.immed) es
each_unskipped o es nothing = tt
each_unskipped o es (then {es = before} {x = x} {l = l} p u e y) = (due_poll o before x l p e, each_unskipped o before p)

-- ---- part 5

pub rule_stop : (o : Order) (es : List Exchange) (w : Why) → (ruled (pass o) es ≡ stop w) ↔ (first_refused o es ≡ found w)
rule_stop o es w = (λ t. go (first_refused o es) (left o es) t, ruled_stop o es w)
  where
    go : (f : Found) (l : List Op) → answer_to o es f l ≡ stop w → f ≡ found w
    go (found v) l e = ap found (cc)
    go none [] e = clash (cc)
    go none (x ∷ l) e = clash (cc)
