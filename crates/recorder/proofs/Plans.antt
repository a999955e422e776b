-- What is left of the plan: what it keeps, what it still has to close, and where polls stand in it.
use mathlib.Core.Path.{◌≡◌, refl, sym, ap, subst, ◌∙◌}
use mathlib.Core.Bool.{Bool, true, false}
use mathlib.Core.List.{List, [], ◌∷◌, ◌++◌, append_assoc}
use Prim.Native.Nat.{◌≤◌}
use native.Mathlib.Omega.{arith}
use lib.ListN.{length, length-append}
use Rattle.basics.specs.Bytes.{if}
use Rattle.mmc.specs.declared.units.TrackNumber.{TrackNumber}
use Rattle.mmc.specs.declared.order.Order.{Order}
use Rattle.recorder.specs.declared.script.Op.{Op}
use Rattle.recorder.specs.declared.script.Op.TheVariants.{GetConfiguration, ReadDiscInformation, ReadTrackInformation, Blank, TestUnitReady, RequestSense}
use Rattle.recorder.specs.Script.{is_poll, polls, erasing, gather, blocks_in, closing_in, script}
use Rattle.recorder.specs.Exchanges.{Exchange, gathered, done_in, polling}
use Rattle.recorder.specs.Rules.{Judgement, move, judged, left}
use Rattle.std.proofs.lemmas.Bool.{false≢true}
use Rattle.recorder.proofs.Lists.{gather_append, nothing_after}
use Rattle.recorder.proofs.Turns.{made, Played, nothing, then, Asks, a46, a51, a52, a03, Idle, not_good, only_asked, Turn, repeats, refuses, works, polls_begin, erases_first, asks, polls_on, polls_end, turn}

-- ---- what is kept: a part that neither the asking operations nor the polls nor an erasing have

pub record Ignores {B : Type 0} (g : Op → List B) : Type 0 where
  pub g46 : g GetConfiguration ≡ []
  pub g51 : g ReadDiscInformation ≡ []
  pub g52 : (t : TrackNumber) → g (ReadTrackInformation t) ≡ []
  pub g00 : g TestUnitReady ≡ []
  pub g03 : g RequestSense ≡ []
  pub g_a1 : g Blank ≡ []

module _ {B : Type 0} (g : Op → List B) (i : Ignores g) where
  ignored : {x : Op} → Asks x → g x ≡ []
  ignored a46 = i.g46
  ignored a51 = i.g51
  ignored (a52 {t = t}) = i.g52 t
  ignored a03 = i.g03

  idle_done : (x : Op) (b : Bool) → Idle x b → if b (g x) [] ≡ []
  idle_done x b not_good = refl
  idle_done x true (only_asked a) = ignored a
  idle_done x false (only_asked a) = refl

  -- polls have no part
  no_part : (x : Op) (b : Bool) → g x ≡ [] → if b (g x) [] ≡ g x
  no_part x true e = refl
  no_part x false e = sym e

  polls_none : (l : List Op) → gather g (polls ++ l) ≡ gather g l
  polls_none l = ap (λ (m : List B). m ++ (g RequestSense ++ gather g l)) i.g00 ∙ ap (λ (m : List B). m ++ gather g l) i.g03

  -- nor has an erasing
  erasing_none : (l : List Op) → gather g (erasing ++ l) ≡ gather g l
  erasing_none l = ap (λ (m : List B). m ++ (g ReadDiscInformation ++ gather g l)) i.g_a1 ∙ ap (λ (m : List B). m ++ gather g l) i.g51

  -- the operation is answered, and nothing that counts comes in front
  answered : (before : List B) (x : Op) (b : Bool) (l m : List Op) → if b (g x) [] ≡ g x → gather g m ≡ gather g l → (before ++ if b (g x) []) ++ gather g m ≡ before ++ gather g (x ∷ l)
  answered before x b l m e f =
      append_assoc before (if b (g x) []) (gather g m) ∙
      ap (λ (k : List B). before ++ (k ++ gather g m)) e ∙
      ap (λ (k : List B). before ++ (g x ++ k)) f

  kept_turn : (before : List B) (x : Op) (l : List Op) (p b q : Bool) (j : Judgement) → Turn p x b q j → (before ++ if b (g x) []) ++ gather g (move j (x ∷ l)) ≡ before ++ gather g (x ∷ l)
  kept_turn before x l p b q j (repeats n) = ap (λ (m : List B). m ++ gather g (x ∷ l)) (nothing_after before [] refl)
  kept_turn before x l p b q j (refuses k) = ap (λ (m : List B). m ++ gather g (x ∷ l)) (nothing_after before (if b (g x) []) (idle_done x b k))
  kept_turn before x l p b q j (works n) = answered before x true l l refl refl
  kept_turn before x l p b q j (polls_begin n) = answered before x true l (polls ++ l) refl (polls_none l)
  kept_turn before x l p b q j erases_first = answered before ReadDiscInformation true l (erasing ++ l) refl (erasing_none l)
  kept_turn before x l p b q j asks = answered before TestUnitReady b l l (no_part TestUnitReady b i.g00) refl
  kept_turn before x l p b q j polls_on = answered before RequestSense true l (polls ++ l) refl (polls_none l)
  kept_turn before x l p b q j polls_end = answered before RequestSense true l l refl refl

  -- what the exchanges have done and what is left of it are together the script's
  pub kept : (o : Order) (es : List Exchange) → Played o es → gathered (done_in g) es ++ gather g (left o es) ≡ gather g (script o)
  kept o es nothing = refl
  kept o es (then {es = before} {x = x} {l = l} p u e y) =
      ap (λ (m : List Op). gathered (done_in g) (made o before x y ∷ before) ++ gather g (move (judged o before (made o before x y)) m)) e ∙
      kept_turn (gathered (done_in g) before) x l _ y.good _ _ (turn o before x y) ∙
      ap (λ (m : List Op). gathered (done_in g) before ++ gather g m) (sym e) ∙
      kept o before p

pub blocks_ignore : Ignores blocks_in
blocks_ignore = record { g46 = refl; g51 = refl; g52 = λ t. refl; g00 = refl; g03 = refl; g_a1 = refl }

pub closings_ignore : Ignores closing_in
closings_ignore = record { g46 = refl; g51 = refl; g52 = λ t. refl; g00 = refl; g03 = refl; g_a1 = refl }

-- ---- a part of the script: no poll, and each operation is a closing command, or comes before one

abbrev pub Unclosed : List Op → Type 0
Unclosed l = 1 ≤ length (gather closing_in l)

abbrev pub Scripted : List Op → Type 0
Scripted [] = Unit {0}
Scripted (x ∷ l) = Unclosed (x ∷ l) × ((is_poll x ≡ false) × Scripted l)

-- no poll at all
abbrev pub Calm : List Op → Type 0
Calm [] = Unit {0}
Calm (x ∷ l) = (is_poll x ≡ false) × Calm l

-- what comes before a list that has to be closed
unclosed_before : (xs l : List Op) → Unclosed l → Unclosed (xs ++ l)
unclosed_before xs l h =
    let a : length (gather closing_in (xs ++ l)) ≡ length (gather closing_in xs ++ gather closing_in l) = ap length (gather_append closing_in xs l) in
    let b = length-append (gather closing_in xs) (gather closing_in l) in
    omega arith

pub scripted_before : (xs l : List Op) → Calm xs → Unclosed l → Scripted l → Scripted (xs ++ l)
scripted_before [] l c h z = z
scripted_before (x ∷ xs) l c h z = (unclosed_before (x ∷ xs) l h, (c.0, scripted_before xs l c.1 h z))

-- ---- where polls stand: in front of what is left of the script, while a polling is under way

pub data Shape : Bool → List Op → Type 0 where
  working : {l : List Op} → Scripted l → Shape false l
  asking : {l : List Op} → Scripted l → Shape true (TestUnitReady ∷ RequestSense ∷ l)
  hearing : {l : List Op} → Scripted l → Shape true (RequestSense ∷ l)

shape_turn : (p b q : Bool) (x : Op) (l : List Op) (j : Judgement) → Turn p x b q j → Shape p (x ∷ l) → Shape q (move j (x ∷ l))
shape_turn p b q x l j (repeats n) s = s
shape_turn p b q x l j (refuses k) s = s
shape_turn p b q x l j (works n) (working z) = working z.1.1
shape_turn p b q x l j (works n) (asking z) = absurd (false≢true (sym n))
shape_turn p b q x l j (works n) (hearing z) = absurd (false≢true (sym n))
shape_turn p b q x l j (polls_begin n) (working z) = asking z.1.1
shape_turn p b q x l j (polls_begin n) (asking z) = absurd (false≢true (sym n))
shape_turn p b q x l j (polls_begin n) (hearing z) = absurd (false≢true (sym n))
shape_turn p b q x l j erases_first (working z) = working (scripted_before erasing l (refl, (refl, tt)) z.0 z.1.1)
shape_turn p b q x l j asks (working z) = absurd (false≢true (sym z.1.0))
shape_turn p b q x l j asks (asking z) = hearing z
shape_turn p b q x l j polls_on (working z) = absurd (false≢true (sym z.1.0))
shape_turn p b q x l j polls_on (hearing z) = asking z
shape_turn p b q x l j polls_end (working z) = absurd (false≢true (sym z.1.0))
shape_turn p b q x l j polls_end (hearing z) = working z

pub shape : (o : Order) (es : List Exchange) → Scripted (script o) → Played o es → Shape (polling o.immed es) (left o es)
shape o es s nothing = working s
shape o es s (then {es = before} {x = x} {l = l} p u e y) =
    subst (λ (m : List Op). Shape (polling o.immed (made o before x y ∷ before)) (move (judged o before (made o before x y)) m)) (sym e)
    (shape_turn _ y.good _ x l _ (turn o before x y) (subst (Shape (polling o.immed before)) e (shape o before s p)))
