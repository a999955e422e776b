-- No address takes two blocks: part 3. Nothing about the script is needed.
use mathlib.Core.Path.{◌≡◌, refl, sym, ap, subst, ◌∙◌}
use mathlib.Core.Bool.{Bool, true, false, not, ◌&&◌, ◌||◌}
use mathlib.Core.List.{List, [], ◌∷◌, ◌++◌, append-nil}
use Prim.Native.Nat.{ℕ, ◌+◌, ◌≤◌, ◌<◌}
use native.Mathlib.Omega.{arith}
use borrow.Author.Tests.{ltb-false}
use lib.Dec.{ltb, eqb}
use lib.ListN.{length, get_or}
use Rattle.basics.specs.Bytes.{if}
use Rattle.mmc.specs.Times.{frames_to}
use Rattle.mmc.specs.declared.units.FrameCount.{FrameCount}
use Rattle.mmc.specs.declared.order.Order.{Order}
use Rattle.mmc.specs.declared.order.Method.{Method}
use Rattle.recorder.specs.declared.script.Op.{Op}
use Rattle.recorder.specs.declared.script.Op.TheVariants.{GetConfiguration, ReadDiscInformation, ReadTrackInformation, ModeSelect, SendCueSheet, Write, SynchronizeCache, CloseTrack, CloseSession, Blank, TestUnitReady, RequestSense}
use Rattle.recorder.specs.declared.replies.TrackInformation.{TrackInformation}
use Rattle.recorder.specs.declared.replies.Reading.{Reading}
use Rattle.recorder.specs.declared.exchanges.Seen.{Seen}
use Rattle.recorder.specs.Answers.{Why}
use Rattle.recorder.specs.Replies.{reading}
use Rattle.recorder.specs.Script.{count_in, stepwise}
use Rattle.recorder.specs.Exchanges.{Exchange, upward, occupied, start_at, past, see, seen}
use Rattle.recorder.specs.Rules.{unusable, needed, fits, opening_tests, later_tests, track_tests, judge, judged, Found, none, found, refused_by, first_refused}
use Rattle.std.proofs.lemmas.Bool.{false≢true, or_parts}
use Rattle.recorder.proofs.Lists.{none_found, frames_back, Clear, passed_clear, Under, nowhere, under_more, under_upward, under_rises}
use Rattle.recorder.proofs.Turns.{made, Played, nothing, then, Asks, a46, a51, a52, a03, Reads, busy, not_ready_lem, failed, malformed, profile, status, information, indication, ready, unread, reads}
use Rattle.recorder.proofs.Rulings.{unrefused_last}

-- ---- a 52h that passed: the track is usable, and it fits

pub record Passed (o : Order) (t : ℕ) (v : Seen) (i : TrackInformation) : Type 0 where
  pub usable : unusable o.method v.at i ≡ false
  pub fitting : not (fits o.method (needed o t) i) ≡ false
  pub opening : eqb t 1 ≡ true → o.erase ≡ false → Clear (opening_tests o t v i)

pub passed : (o : Order) (t : ℕ) (v : Seen) (i : TrackInformation) → Clear (track_tests o t v i) → Passed o t v i
passed o t v i c = go (eqb t 1) o.erase refl refl c
  where
    go : (a b : Bool) → eqb t 1 ≡ a → o.erase ≡ b → Clear (if (a && not b) (opening_tests o t v i) (later_tests o t v i)) → Passed o t v i
    go true false e f c = record { usable = c.1.1.0; fitting = c.1.1.1.1.1.1.0; opening = λ q h. c }
    go true true e f c = record { usable = c.0; fitting = c.1.0; opening = λ q h. absurd (false≢true (sym h ∙ f)) }
    go false b e f c = record { usable = c.0; fitting = c.1.0; opening = λ q h. absurd (false≢true (sym e ∙ q)) }

-- the next block never goes back
start_above : (m : Method) (at : FrameCount) (i : TrackInformation) → unusable m at i ≡ false → at.0 ≤ (start_at m at i).0
unfolding unusable
start_above m at i e = go (stepwise m) (or_parts i.damaged _ e).1
  where
    go : (b : Bool) → b && (not i.addressed || ltb (frames_to i.address).0 at.0) ≡ false → at.0 ≤ (if b (frames_to i.address) at).0
    go true e = ltb-false _ _ (or_parts (not i.addressed) _ e).1
    go false e = omega arith

pub past_count : (x : Op) (at : FrameCount) → (past x at).0 ≡ at.0 + count_in x
past_count GetConfiguration at = omega arith
past_count ReadDiscInformation at = omega arith
past_count (ReadTrackInformation t) at = omega arith
past_count (ModeSelect t) at = omega arith
past_count SendCueSheet at = omega arith
past_count (Write t f k) at = refl
past_count (SynchronizeCache t) at = omega arith
past_count (CloseTrack t) at = omega arith
past_count CloseSession at = omega arith
past_count Blank at = omega arith
past_count TestUnitReady at = omega arith
past_count RequestSense at = omega arith

-- ---- the occupied frames rise, and lie before where the next block goes

asks_none : {x : Op} → Asks x → count_in x ≡ 0
asks_none a46 = refl
asks_none a51 = refl
asks_none a52 = refl
asks_none a03 = refl

module _ (o : Order) (v : Seen) (l : List ℕ) (u : Under v.at.0 l) where
  abbrev LaidBy : Bool → Op → Reading → Type 0
  LaidBy g x r = Under (see o.method x r v).at.0 (l ++ if g (upward v.at.0 (count_in x)) [])

  -- nothing is put, and the next block goes no further back
  nothing_put : (xs : List ℕ) (k : ℕ) → xs ≡ [] → v.at.0 ≤ k → Under k (l ++ xs)
  nothing_put xs k e h = subst (λ (m : List ℕ). Under k m) (sym (ap (λ (m : List ℕ). l ++ m) e ∙ append-nil l)) (under_more u h)

  laid_by : (x : Op) (g : Bool) (r : Reading) → Reads x g r → refused_by (judge o v x r) ≡ none → LaidBy g x r
  laid_by x g r (busy n) j = nothing_put [] v.at.0 refl (omega arith)
  laid_by x g r not_ready_lem j = nothing_put [] v.at.0 refl (omega arith)
  laid_by x g r failed j = absurd (none_found _ (sym j))
  laid_by x g r (malformed a) j = absurd (none_found _ (sym j))
  laid_by x g r profile j = nothing_put [] v.at.0 refl (omega arith)
  laid_by x g r status j = nothing_put [] v.at.0 refl (omega arith)
  laid_by x g r (information {t = t} {i = i}) j =
      nothing_put [] (start_at o.method v.at i).0 refl (start_above o.method v.at i (passed o t.0 v i (passed_clear (track_tests o t.0 v i) [] j)).usable)
  laid_by x g r indication j = nothing_put [] v.at.0 refl (omega arith)
  laid_by x g r ready j = nothing_put [] v.at.0 refl (omega arith)
  laid_by x g r (unread q n) j = subst (λ (k : ℕ). Under k (l ++ upward v.at.0 (count_in x))) (sym (past_count x v.at)) (under_upward v.at.0 (count_in x) l u)

  -- a refused reply puts nothing
  refused_by_lem : (x : Op) (g : Bool) (r : Reading) (w : Why) → Reads x g r → refused_by (judge o v x r) ≡ found w → Under v.at.0 (l ++ if g (upward v.at.0 (count_in x)) [])
  refused_by_lem x g r w (busy n) j = nothing_put [] v.at.0 refl (omega arith)
  refused_by_lem x g r w not_ready_lem j = nothing_put [] v.at.0 refl (omega arith)
  refused_by_lem x g r w failed j = nothing_put [] v.at.0 refl (omega arith)
  refused_by_lem x g r w (malformed a) j = nothing_put _ v.at.0 (ap (upward v.at.0) (asks_none a)) (omega arith)
  refused_by_lem x g r w profile j = nothing_put [] v.at.0 refl (omega arith)
  refused_by_lem x g r w status j = nothing_put [] v.at.0 refl (omega arith)
  refused_by_lem x g r w information j = nothing_put [] v.at.0 refl (omega arith)
  refused_by_lem x g r w indication j = nothing_put [] v.at.0 refl (omega arith)
  refused_by_lem x g r w ready j = nothing_put [] v.at.0 refl (omega arith)
  refused_by_lem x g r w (unread q n) j = absurd (none_found w j)

record Laid (o : Order) (es : List Exchange) : Type 0 where
  bound : ℕ
  under : Under bound (occupied es)
  ahead : first_refused o es ≡ none → bound ≡ (seen o.method es).at.0

laid : (o : Order) (es : List Exchange) → Played o es → Laid o es
laid o es nothing = record { bound = 0; under = nowhere; ahead = λ u. refl }
laid o es (then {es = before} {x = x} {l = l} p u e y) =
    let a = laid o before p in
    go (subst (λ (k : ℕ). Under k (occupied before)) (a.ahead u) a.under) (refused_by (judged o before (made o before x y))) refl
  where
    v : Seen
    v = seen o.method before

    -- the command's address is where the next block goes
    here : (k : ℕ) → Under k (occupied before ++ if y.good (upward v.at.0 (count_in x)) []) → Under k (occupied (made o before x y ∷ before))
    here k h = subst (λ (a : ℕ). Under k (occupied before ++ if y.good (upward a (count_in x)) [])) (sym (frames_back v.at)) h

    go : Under v.at.0 (occupied before) → (f : Found) → refused_by (judged o before (made o before x y)) ≡ f → Laid o (made o before x y ∷ before)
    go w none j = record { bound = _; under = here _ (laid_by o v (occupied before) w x y.good (reading x y) (reads x y) j); ahead = λ q. refl }
    go w (found z) j =
        record {
          bound = v.at.0;
          under = here _ (refused_by_lem o v (occupied before) w x y.good (reading x y) z (reads x y) j);
          ahead = λ q. absurd (none_found z (sym (unrefused_last o before (made o before x y) u q) ∙ j));
        }

-- ---- part 3

pub rule_apart : (o : Order) (es : List Exchange) → Played o es → (i j : ℕ) → i < j → j < length (occupied es) → get_or (occupied es) i 0 ≡ get_or (occupied es) j 0 → ⊥
rule_apart o es p i j ij jl e = let r = under_rises (laid o es p).under i j ij jl in omega arith
