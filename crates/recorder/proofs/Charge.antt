-- The room that the first 52h found lasts on a drive that starts each track 152 blocks after the last one ends; and what is needed from a
-- track on is what such a drive takes.
use mathlib.Core.Path.{◌≡◌, refl, sym, ap, subst, ◌∙◌}
use mathlib.Core.Bool.{Bool, true, false, not, ◌&&◌}
use mathlib.Core.List.{List, [], ◌∷◌, ◌++◌, append-nil, append_assoc}
use Prim.Native.Nat.{ℕ, zero, suc, ◌+◌, ◌-◌, ◌≤◌}
use native.Mathlib.Omega.{arith}
use borrow.Author.Tests.{ne_eqb}
use lib.Dec.{eqb}
use lib.ListN.{length, drop, length-append, length-drop}
use Rattle.basics.specs.Bytes.{if}
use Rattle.mmc.specs.Order.{tracks_in, blocks_of}
use Rattle.mmc.specs.Refusals.{test}
use Rattle.mmc.specs.declared.order.Order.{Order}
use Rattle.mmc.specs.declared.order.Track.{Track}
use Rattle.mmc.specs.declared.order.Method.{Method}
use Rattle.mmc.specs.declared.order.Method.TheVariants.{Tao, Sao}
use Rattle.mmc.specs.declared.order.Recipe.{Recipe}
use Rattle.mmc.specs.declared.order.Recipe.TheVariants.{Old, New}
use Rattle.recorder.specs.declared.script.Op.{Op}
use Rattle.recorder.specs.declared.script.Op.TheVariants.{ReadDiscInformation}
use Rattle.recorder.specs.declared.replies.TrackInformation.{TrackInformation}
use Rattle.recorder.specs.declared.replies.Reading.{Reading}
use Rattle.recorder.specs.declared.exchanges.Seen.{Seen}
use Rattle.recorder.specs.Answers.{because}
use Rattle.recorder.specs.Replies.{reading}
use Rattle.recorder.specs.Script.{close_by, code, track_in, is_polled, portion, writes, writes_for, each_track, script}
use Rattle.recorder.specs.Exchanges.{Exchange, seen}
use Rattle.recorder.specs.Rules.{to_come, charge, needed, unusable, fits, Judgement, onward, tested, disc_tests, erases, erasing_if, opening_tests, later_tests, track_tests, is_last, polls_if, judge, judged, move, left, none, found, refused_by, first_refused}
use Rattle.recorder.specs.Places.{piece_of}
use Rattle.recorder.specs.History.{informations_in, informations, earlier, drive_gap, Follows, Spaced, last_end}
use Rattle.std.proofs.lemmas.Bool.{false≢true, or_parts}
use Rattle.recorder.proofs.Lists.{clash, if_no, none_found, passed_clear, clear_passes, tested_by}
use Rattle.recorder.proofs.Turns.{made, Played, nothing, then, is_asking, Reads, busy, not_ready_lem, failed, malformed, profile, status, information, indication, ready, unread, reads}
use Rattle.recorder.proofs.Scripts.{by}
use Rattle.recorder.proofs.Rulings.{refused_next, unrefused_last}
use Rattle.recorder.proofs.Apart.{passed}
use Rattle.recorder.proofs.Standing.{blocks_after, blocks_less, limits, fits_within}

-- ---- what is needed is what such a drive takes

charged : (m : Method) (a : ℕ) (xs : List Track) → a + (blocks_of xs + charge m (length xs)) ≡ last_end m a xs
unfolding blocks_of
charged Tao a [] = omega arith
charged Sao a [] = omega arith
charged Tao a (x ∷ []) = omega arith
charged Sao a (x ∷ []) = omega arith
charged Tao a (x ∷ y ∷ xs) = let i = charged Tao (a + x.length.0 + drive_gap) (y ∷ xs) in omega arith
charged Sao a (x ∷ y ∷ xs) = let i = charged Sao (a + x.length.0) (y ∷ xs) in omega arith

pub needs_all : (o : Order) (t a : ℕ) → a + needed o t ≡ last_end o.method a (to_come o t)
needs_all o t a = charged o.method a (to_come o t)

pub needed_tao : (o : Order) (t : ℕ) → o.method ≡ Tao → needed o t ≡ blocks_of (to_come o t) + charge Tao (length (to_come o t))
needed_tao o t e = ap (λ (m : Method). blocks_of (to_come o t) + charge m (length (to_come o t))) e

-- one track less
pub needed_less : (o : Order) (t : ℕ) → o.method ≡ Tao → length (tracks_in o) ≡ o.count → suc (suc t) ≤ o.count → needed o (suc t) ≡ piece_of o (suc t) + drive_gap + needed o (suc (suc t))
needed_less o t e n h =
    let a : suc t - 1 ≡ t = omega arith in
    let b : suc (suc t) - 1 ≡ suc t = omega arith in
    let l = blocks_less o t (omega arith) in
    let c = length-drop t (tracks_in o) in
    let d = length-drop (suc t) (tracks_in o) in
    let x = needed_tao o (suc t) e ∙ ap (λ (k : ℕ). blocks_after o k + charge Tao (length (drop k (tracks_in o)))) a in
    let y = needed_tao o (suc (suc t)) e ∙ ap (λ (k : ℕ). blocks_after o k + charge Tao (length (drop k (tracks_in o)))) b in
    omega arith

-- ---- the 52h of a plan are for the tracks after the first k of n, in turn, and every 51h comes before them

pub record Due (n k : ℕ) (x : Op) : Type 0 where
  pub track : eqb (code x) 0x52 ≡ true → (track_in x ≡ suc k) × (track_in x ≤ n)
  pub disc : eqb (code x) 0x51 ≡ true → k ≡ 0

abbrev pub next : ℕ → Op → ℕ
next k x = if (eqb (code x) 0x52) (suc k) k

abbrev pub InTurn : ℕ → ℕ → List Op → Type 0
InTurn n k [] = Unit {0}
InTurn n k (x ∷ l) = Due n k x × InTurn n (next k x) l

-- neither 52h nor 51h
other : {n k : ℕ} {x : Op} → eqb (code x) 0x52 ≡ false → eqb (code x) 0x51 ≡ false → Due n k x
other a b = record { track = λ e. absurd (false≢true (sym a ∙ e)); disc = λ e. absurd (false≢true (sym b ∙ e)) }

writes_turn : (n k t l f c : ℕ) (m : List Op) → InTurn n k m → InTurn n k (writes t l f c ++ m)
writes_turn n k t l f zero m i = i
writes_turn n k t l f (suc c) m i = (other refl refl, writes_turn n k t l (f + portion l f) c m i)

close_turn : (q : Recipe) (n k t : ℕ) (m : List Op) → InTurn n k m → InTurn n k (close_by q t m)
close_turn Old n k t m i = (other refl refl, i)
close_turn New n k t m i = i

each_turn : (o : Order) (k : ℕ) (xs : List Track) → k + length xs ≤ o.count → InTurn o.count k (each_track (by o Tao) k xs)
each_turn o k [] h = (other refl refl, tt)
each_turn o k (x ∷ xs) h =
    let i = each_turn o (suc k) xs (omega arith) in
    let b : suc k ≤ o.count = omega arith in (
      record { track = λ e. (refl, b); disc = λ e. absurd (false≢true e) },
      (other refl refl, writes_turn o.count (suc k) (suc k) x.length.0 0 (writes_for (x.length.0 - 0)) _ (other refl refl, close_turn o.recipe o.count (suc k) (suc k) _ i)),
    )

script_turn : (o : Order) → o.method ≡ Tao → length (tracks_in o) ≡ o.count → InTurn o.count 0 (script o)
script_turn o e n = go o.method e
  where
    go : (m : Method) → m ≡ Tao → InTurn o.count 0 (script (by o m))
    go Tao e = (other refl refl, (record { track = λ q. absurd (false≢true q); disc = λ q. refl }, each_turn o 0 (tracks_in o) (omega arith)))
    go Sao e = clash (cc)

-- ---- what was said at the latest 52h, which passed

pub data Latest (o : Order) (is : List TrackInformation) : Type 0 where
  unsaid : is ≡ [] → Latest o is
  said : (before : List TrackInformation) (i : TrackInformation) → is ≡ before ++ (i ∷ []) → not (fits o.method (needed o (suc (length before))) i) ≡ false → Latest o is

pub record Heard (o : Order) (l : List Op) (is : List TrackInformation) : Type 0 where
  pub in_turn : InTurn o.count (length is) l
  pub latest : Latest o is

-- nothing more is said
unheard : {o : Order} {l : List Op} {is : List TrackInformation} → Heard o l is → Heard o l (is ++ [])
unheard {o = o} {l = l} {is = is} i = subst (Heard o l) (sym (append-nil is)) i

module _ (o : Order) (v : Seen) (is : List TrackInformation) where
  -- polls come in front, or none
  polled : (x : Op) (l : List Op) (b : Bool) → next (length is) x ≡ length is → Heard o (x ∷ l) is → Heard o (move (polls_if b) (x ∷ l)) is
  polled x l b e i = go b
    where
      rest : InTurn o.count (length is) l
      rest = subst (λ (k : ℕ). InTurn o.count k l) e i.in_turn.1

      go : (b : Bool) → Heard o (move (polls_if b) (x ∷ l)) is
      go true = record { in_turn = (other refl refl, (other refl refl, rest)); latest = i.latest }
      go false = record { in_turn = rest; latest = i.latest }

  -- an erasing comes in front of a 51h, or none
  erased : (l : List Op) (b : Bool) → Heard o (ReadDiscInformation ∷ l) is → Heard o (move (onward (erasing_if b)) (ReadDiscInformation ∷ l)) is
  erased l true i = record { in_turn = (other refl refl, i.in_turn); latest = i.latest }
  erased l false i = polled ReadDiscInformation l false refl i

  -- a reply that passes
  heard_by : (x : Op) (l : List Op) (g : Bool) (r : Reading) → Reads x g r → refused_by (judge o v x r) ≡ none → Heard o (x ∷ l) is → Heard o (move (judge o v x r) (x ∷ l)) (is ++ informations_in r)
  heard_by x l g r (busy n) j i = unheard i
  heard_by x l g r not_ready_lem j i = unheard (polled x l false refl i)
  heard_by x l g r failed j i = absurd (none_found _ (sym j))
  heard_by x l g r (malformed a) j i = absurd (none_found _ (sym j))
  heard_by x l g r profile j i = unheard (polled x l false refl i)
  heard_by x l g r (status {d = d}) j i =
      tested_by (λ (q : Judgement). refused_by q ≡ none → Heard o (move q (x ∷ l)) (is ++ [])) (disc_tests o.erase o v d) (erasing_if (erases o.erase v.erased d.status))
      (λ c q. unheard (erased l (erases o.erase v.erased d.status) i)) (λ k q. absurd (none_found _ (sym q))) j
  heard_by x l g r (information {t = t} {i = w}) j i =
      let c = passed_clear (track_tests o t.0 v w) [] j in
      let f = (passed o t.0 v w c).fitting in
      let k = length-append is (w ∷ []) in
      let e : suc (length is) ≡ length (is ++ (w ∷ [])) = omega arith in
      let h : t.0 ≡ suc (length is) = (i.in_turn.0.track refl).0 in
      subst (λ (q : Judgement). Heard o (move q (x ∷ l)) (is ++ (w ∷ []))) (sym (clear_passes (track_tests o t.0 v w) [] c))
      (record {
        in_turn = subst (λ (k : ℕ). InTurn o.count k l) e i.in_turn.1;
        latest = said is w refl (subst (λ (k : ℕ). not (fits o.method (needed o k) w) ≡ false) h f);
      })
  heard_by x l g r (indication {n = n}) j i = unheard (polled x l (not (is_last v.ready n)) refl i)
  heard_by x l g r ready j i = unheard (polled x l false refl i)
  heard_by x l g r (unread q n) j i = unheard (polled x l (is_polled o.immed x) (unasked x q) i)
    where
      unasked : (x : Op) → is_asking x ≡ false → next (length is) x ≡ length is
      unasked x q = if_no _ _ (or_parts (eqb (code x) 0x52) _ (or_parts (eqb (code x) 0x51) _ (or_parts (eqb (code x) 0x46) _ q).1).1).0

pub heard : (o : Order) (es : List Exchange) → o.method ≡ Tao → length (tracks_in o) ≡ o.count → Played o es → first_refused o es ≡ none → Heard o (left o es) (informations es)
heard o es e n nothing u = record { in_turn = script_turn o e n; latest = unsaid refl }
heard o es e n (then {es = before} {x = x} {l = l} p w q y) u =
    subst (λ (m : List Op). Heard o (move (judged o before (made o before x y)) m) (informations before ++ informations_in (reading x y))) (sym q)
    (heard_by o (seen o.method before) (informations before) x l y.good (reading x y) (reads x y) (unrefused_last o before (made o before x y) w u)
    (subst (λ (m : List Op). Heard o m (informations before)) q (heard o before e n p w)))

-- ---- a reply that 10 refuses

not_refusing : (b : Bool) → refused_by (polls_if b) ≡ found (because 10) → ⊥
not_refusing true e = none_found _ e
not_refusing false e = none_found _ e

-- of 7 and 10 it is 10 only where that applies
not_10 : (a b : Bool) → b ≡ false → refused_by (tested (test a 7 ∷ test b 10 ∷ []) []) ≡ found (because 10) → ⊥
not_10 true b f e = let k : ◌≡◌ {A = ℕ} 7 10 = cc in omega arith
not_10 false true f e = false≢true (sym f)
not_10 false false f e = none_found _ e

-- a track that follows one that fits fits too
fits_on : (o : Order) (t : ℕ) (i j : TrackInformation) → o.method ≡ Tao → length (tracks_in o) ≡ o.count → suc (suc t) ≤ o.count → Follows (piece_of o (suc t)) i j → not (fits o.method (needed o (suc t)) i) ≡ false → not (fits o.method (needed o (suc (suc t))) j) ≡ false
fits_on o t i j e n h f k =
    let w = limits Tao (needed o (suc t)) i (ap (λ (m : Method). not (fits m (needed o (suc t)) i)) (sym e) ∙ k) in
    let l = needed_less o t e n h in
    let a = f.starts in
    let b = f.falls in
    ap (λ (m : Method). not (fits m (needed o (suc (suc t))) j)) e ∙ fits_within Tao (needed o (suc (suc t))) j (omega arith) (omega arith)

module _ (o : Order) (v : Seen) (is : List TrackInformation) (e : o.method ≡ Tao) (n : length (tracks_in o) ≡ o.count) where
  empty : (is : List TrackInformation) → length is ≡ 0 → is ≡ []
  empty [] h = refl
  empty (i ∷ is) h = absurd (omega arith)

  first_only : (t : ℕ) (j : TrackInformation) → t ≡ suc (length is) → t ≤ o.count → Latest o is → Spaced o (is ++ (j ∷ [])) → refused_by (tested (track_tests o t v j) []) ≡ found (because 10) → is ≡ []
  first_only t j h c (unsaid q) s r = q
  first_only t j h c (said before i q f) s r =
      let k = length-append before (i ∷ []) in
      let m : length is ≡ suc (length before) = ap length q ∙ omega arith in
      let w = s before [] i j (ap (λ (l : List TrackInformation). l ++ (j ∷ [])) q ∙ append_assoc before (i ∷ []) (j ∷ [])) in
      let g = fits_on o (length before) i j e n (omega arith) w f in
      let a : t ≡ suc (suc (length before)) = omega arith in
      let z : eqb t 1 ≡ false = ne_eqb t 1 (λ y. omega arith) in
      absurd
      (not_10 (unusable o.method v.at j) _ (ap (λ (k : ℕ). not (fits o.method (needed o k) j)) a ∙ g)
      (ap (λ (b : Bool). refused_by (tested (if (b && not o.erase) (opening_tests o t v j) (later_tests o t v j)) [])) (sym z) ∙ r))

  by_10 : (x : Op) (l : List Op) (g : Bool) (r : Reading) → Reads x g r → Heard o (x ∷ l) is → Spaced o (is ++ informations_in r) → refused_by (judge o v x r) ≡ found (because 10) → is ≡ []
  by_10 x l g r (busy q) i s j = absurd (none_found _ j)
  by_10 x l g r not_ready_lem i s j = absurd (none_found _ j)
  by_10 x l g r failed i s j = clash (cc)
  by_10 x l g r (malformed a) i s j = let k : ◌≡◌ {A = ℕ} 4 10 = cc in absurd (omega arith)
  by_10 x l g r profile i s j = absurd (none_found _ j)
  by_10 x l g r status i s j = empty is (i.in_turn.0.disc refl)
  by_10 x l g r (information {t = t} {i = w}) i s j = let d = i.in_turn.0.track refl in first_only t.0 w d.0 d.1 i.latest s j
  by_10 x l g r (indication {n = m}) i s j = absurd (not_refusing (not (is_last v.ready m)) j)
  by_10 x l g r ready i s j = absurd (none_found _ j)
  by_10 x l g r (unread q m) i s j = absurd (not_refusing (is_polled o.immed x) j)

pub room_lasts : (o : Order) (es : List Exchange) → o.method ≡ Tao → length (tracks_in o) ≡ o.count → Played o es → Spaced o (informations es) → first_refused o es ≡ found (because 10) → informations (earlier es) ≡ []
room_lasts o es e n nothing s u = absurd (none_found _ u)
room_lasts o es e n (then {es = before} {x = x} {l = l} p w q y) s u =
    by_10 o (seen o.method before) (informations before) e n x l y.good (reading x y) (reads x y) (subst (λ (m : List Op). Heard o m (informations before)) q (heard o before e n p w)) s
    (sym (refused_next o before (made o before x y) (refused_by (judged o before (made o before x y))) w refl) ∙ u)
