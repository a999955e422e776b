-- Where an erasing stands in the plan, no job in sight: what was judged before an A1h, and what was said before a WRITE.
use mathlib.Core.Path.{◌≡◌, refl, sym, ap, subst, ◌∙◌}
use mathlib.Core.Bool.{Bool, true, false, not, ◌&&◌, ◌||◌}
use mathlib.Core.List.{List, [], ◌∷◌}
use Prim.Native.Nat.{ℕ, ◌≤◌}
use native.Mathlib.Omega.{arith}
use borrow.Author.Tests.{ltb-false, eqb-true, eqb-false, not-false}
use lib.Dec.{ltb, eqb}
use Rattle.basics.specs.Bytes.{if}
use Rattle.mmc.specs.declared.order.Order.{Order}
use Rattle.recorder.specs.declared.script.Op.{Op}
use Rattle.recorder.specs.declared.script.Op.TheVariants.{GetConfiguration, ReadDiscInformation, Blank, TestUnitReady, RequestSense}
use Rattle.recorder.specs.declared.replies.DiscInformation.{DiscInformation}
use Rattle.recorder.specs.declared.replies.Reading.{Reading}
use Rattle.recorder.specs.declared.replies.Reading.TheVariants.{Disc, ProgressIndication, Unread}
use Rattle.recorder.specs.declared.exchanges.Seen.{Seen}
use Rattle.recorder.specs.Replies.{reading, of_profile, of_disc}
use Rattle.recorder.specs.Script.{code, is_erasing}
use Rattle.recorder.specs.Exchanges.{Exchange, profile as profileSaid, disc, erased, unblank, seen}
use Rattle.recorder.specs.Rules.{too_long, used, not_erasable, Judgement, onward, tested, erasing_tests, blank_tests, disc_tests, erases, erasing_if, judge_disc, judge, judged, polls_if, is_last, move, left}
use Rattle.recorder.specs.History.{Each, Recordable, RightlyErased, ErasesRightly, BlankBefore, WritesOnBlank}
use Rattle.std.proofs.lemmas.Bool.{false≢true, or_parts}
use Rattle.recorder.proofs.Lists.{if_no, never, Clear, tested_by}
use Rattle.recorder.proofs.Turns.{made, Played, nothing, then, Reads, busy, not_ready_lem, failed, malformed, a46, a51, a03, profile, status, information, indication, ready, unread, reads, Turn, repeats, refuses, works, polls_begin, erases_first, asks, polls_on, polls_end, turn, profile_seen, erased_seen}
use Rattle.recorder.proofs.Scripts.{is_of_disc, Past, script_past}
use Rattle.recorder.proofs.Audio.{no_audio_so}

-- ---- what the exchanges say of the disc, and what one more adds

pub record Facts : Type 0 where
  pub profile : ℕ
  pub disc : DiscInformation
  pub erased : Bool
  pub unblank : Bool

abbrev pub facts : List Exchange → Facts
facts es = record { profile = profileSaid es; disc = disc es; erased = erased es; unblank = unblank es }

abbrev after : Op → Bool → Reading → Facts → Facts
after x g r f =
    record {
      profile = of_profile f.profile (λ p. p) r;
      disc = of_disc f.disc (λ d. d) r;
      erased = (g && is_erasing x) || f.erased;
      unblank = if (is_erasing x) true (of_disc f.unblank (λ d. not (eqb d.status 0) && f.unblank) r);
    }

-- ---- where the plan stands

abbrev pub Flagged : Order → Type 0
Flagged o = (o.erase ≡ true) × Recordable o

-- before the first 51h is answered; an A1h is due; it is polled, or 51h is asked anew; all of that is past
pub data Stage (o : Order) (f : Facts) : List Op → Type 0 where
  first : {l : List Op} → Past l → f.erased ≡ false → f.unblank ≡ false → Stage o f (GetConfiguration ∷ ReadDiscInformation ∷ l)
  asked : {l : List Op} → Past l → f.erased ≡ false → f.unblank ≡ false → Stage o f (ReadDiscInformation ∷ l)
  wiping : {l : List Op} → Past l → RightlyErased o f.profile f.disc f.erased → Stage o f (Blank ∷ ReadDiscInformation ∷ l)
  asking : {l : List Op} → Past l → f.erased ≡ true → Flagged o → Stage o f (TestUnitReady ∷ RequestSense ∷ ReadDiscInformation ∷ l)
  hearing : {l : List Op} → Past l → f.erased ≡ true → Flagged o → Stage o f (RequestSense ∷ ReadDiscInformation ∷ l)
  anew : {l : List Op} → Past l → f.erased ≡ true → Flagged o → Stage o f (ReadDiscInformation ∷ l)
  past : {l : List Op} → Past l → BlankBefore o f.disc f.unblank → (o.erase ≡ true → Recordable o) → Stage o f l

-- ---- a reply to the first 51h

-- 24, 8, 9 and 10 have passed
recordable_so : (o : Order) (p : ℕ) (d : DiscInformation) → Clear (erasing_tests o p d) → Recordable o
unfolding too_long
recordable_so o p d c = record { no_audio = no_audio_so o c.1.1.0; alike = c.1.1.1.0; long = not-false _ c.1.1.1.1.0; ends = ltb-false _ _ c.1.1.1.1.1.0 }

-- a used disc that 16 lets pass is a CD-RW that is erasable
rightly : (o : Order) (f : Facts) (d : DiscInformation) → o.erase ≡ true → f.erased ≡ false → Clear (erasing_tests o f.profile d) → used d.status ≡ true → RightlyErased o f.profile d f.erased
unfolding not_erasable used
rightly o f d e n c u =
    let q = or_parts (not (eqb f.profile 0x000A)) (not d.erasable) (ap (λ (b : Bool). b && (not (eqb f.profile 0x000A) || not d.erasable)) (sym u) ∙ c.1.1.1.1.1.1.0) in
    record {
      flagged = e;
      recordable = recordable_so o f.profile d c;
      cd_rw_profile = eqb-true _ _ (not-false _ q.0);
      passes_5 = c.0;
      erasable = not-false _ q.1;
      not_blank = go (eqb d.status 1) (eqb d.status 2) refl refl u;
      at_most_2 = ltb-false _ _ c.1.0;
      once = n;
    }
  where
    go : (a b : Bool) → eqb d.status 1 ≡ a → eqb d.status 2 ≡ b → a || b ≡ true → 1 ≤ d.status
    go true b p q w = let i : d.status ≡ 1 = eqb-true _ _ p in omega arith
    go false true p q w = let i : d.status ≡ 2 = eqb-true _ _ q in omega arith
    go false false p q w = absurd (false≢true w)

-- one that is not used is blank
unused : (s : ℕ) → used s ≡ false → ltb 2 s ≡ false → s ≡ 0
unfolding used
unused s u h =
    let l : s ≤ 2 = ltb-false _ _ h in
    let n = or_parts (eqb s 1) (eqb s 2) u in
    let a : s ≡ 1 → ⊥ = eqb-false s 1 n.0 in
    let b : s ≡ 2 → ⊥ = eqb-false s 2 n.1 in
    omega arith

-- what is left then
abbrev left_by : Judgement → List Op → List Op
left_by j l = move j (ReadDiscInformation ∷ l)

module _ (o : Order) (v : Seen) (f : Facts) (d : DiscInformation) (l : List Op) (z : Past l) where
  abbrev w : Facts
  w = after ReadDiscInformation true (Disc d) f

  no_longer : f.unblank ≡ false → w.unblank ≡ false
  no_longer u = ap (λ (b : Bool). not (eqb d.status 0) && b) u ∙ never (not (eqb d.status 0))

  -- by whether the disc is used
  passed_first : o.erase ≡ true → f.erased ≡ false → f.unblank ≡ false → Clear (erasing_tests o f.profile d) → (b : Bool) → used d.status ≡ b → Stage o w (left_by (onward (erasing_if b)) l)
  passed_first e n u c true q = wiping z (rightly o f d e n c q)
  passed_first e n u c false q = past z (record { said_blank = no_longer u; is_blank = λ k. unused d.status q c.1.0 }) (λ k. recordable_so o f.profile d c)

  judged_first : v.profile ≡ f.profile → v.erased ≡ false → f.erased ≡ false → f.unblank ≡ false → (b : Bool) → o.erase ≡ b → Stage o w (left_by (tested (disc_tests b o v d) (erasing_if (erases b v.erased d.status))) l)
  judged_first p e n u false q = past z (record { said_blank = no_longer u; is_blank = λ k. absurd (false≢true (sym q ∙ k)) }) (λ k. absurd (false≢true (sym q ∙ k)))
  judged_first p e n u true q =
      subst (λ (b : Bool). Stage o w (left_by (tested (if b (blank_tests d) (erasing_tests o v.profile d)) (erasing_if (not b && used d.status))) l)) (sym e)
      (subst (λ (k : ℕ). Stage o w (left_by (tested (erasing_tests o k d) (erasing_if (used d.status))) l)) (sym p)
      (tested_by (λ (j : Judgement). Stage o w (left_by j l)) (erasing_tests o f.profile d) (erasing_if (used d.status)) (λ c. passed_first q n u c (used d.status) refl) (λ k. asked z n (no_longer u))))

  -- and to the one that is asked anew
  judged_anew : v.erased ≡ true → f.erased ≡ true → Flagged o → Stage o w (left_by (judge_disc o v d) l)
  judged_anew e n g =
      subst (λ (b : Bool). Stage o w (left_by (tested (disc_tests b o v d) (erasing_if (erases b v.erased d.status))) l)) (sym g.0)
      (subst (λ (b : Bool). Stage o w (left_by (tested (if b (blank_tests d) (erasing_tests o v.profile d)) (erasing_if (not b && used d.status))) l)) (sym e)
      (tested_by (λ (j : Judgement). Stage o w (left_by j l)) (blank_tests d) [] blank (λ k. anew z n g)))
    where
      blank : Clear (blank_tests d) → Stage o w l
      blank c =
          let s : d.status ≤ 0 = ltb-false _ _ c.0 in
          let e : d.status ≡ 0 = omega arith in
          past z (record { said_blank = ap (λ (k : ℕ). not (eqb k 0) && f.unblank) e; is_blank = λ k. e }) (λ k. g.1)

-- ---- a reply once that is past

-- polls are no 51h
past_turn : (p b q : Bool) (x : Op) (l : List Op) (j : Judgement) → Turn p x b q j → Past (x ∷ l) → Past (move j (x ∷ l))
past_turn p b q x l j (repeats n) z = z
past_turn p b q x l j (refuses k) z = z
past_turn p b q x l j (works n) z = z.1
past_turn p b q x l j (polls_begin n) z = (refl, (refl, z.1))
past_turn p b q x l j erases_first z = absurd (false≢true (sym z.0))
past_turn p b q x l j asks z = z.1
past_turn p b q x l j polls_on z = (refl, (refl, z.1))
past_turn p b q x l j polls_end z = z.1

pub not_erasing : (x : Op) → is_of_disc x ≡ false → is_erasing x ≡ false
not_erasing x e = (or_parts (eqb (code x) 0x51) (is_erasing x) e).1

-- and the disc stays as it is
disc_kept : (x : Op) (g : Bool) (r : Reading) (f : Facts) → is_of_disc x ≡ false → Reads x g r → (of_disc f.disc (λ d. d) r ≡ f.disc) × (of_disc f.unblank (λ d. not (eqb d.status 0) && f.unblank) r ≡ f.unblank)
disc_kept x g r f n (busy i) = (refl, refl)
disc_kept x g r f n not_ready_lem = (refl, refl)
disc_kept x g r f n failed = (refl, refl)
disc_kept x g r f n (malformed a) = (refl, refl)
disc_kept x g r f n profile = (refl, refl)
disc_kept x g r f n status = absurd (false≢true (sym n))
disc_kept x g r f n information = (refl, refl)
disc_kept x g r f n indication = (refl, refl)
disc_kept x g r f n ready = (refl, refl)
disc_kept x g r f n (unread q i) = (refl, refl)

blanked_on : (o : Order) (x : Op) (g : Bool) (r : Reading) (f : Facts) → is_of_disc x ≡ false → Reads x g r → BlankBefore o f.disc f.unblank → BlankBefore o (after x g r f).disc (after x g r f).unblank
blanked_on o x g r f n w b =
    let k = disc_kept x g r f n w in
    record {
      said_blank = if_no _ _ (not_erasing x n) ∙ k.1 ∙ b.said_blank;
      is_blank = λ e. ap (λ (d : DiscInformation). d.status) k.0 ∙ b.is_blank e;
    }

-- ---- any reply

module _ (o : Order) (v : Seen) (f : Facts) (p : v.profile ≡ f.profile) (e : v.erased ≡ f.erased) where
  abbrev Then : Op → Bool → Reading → List Op → Type 0
  Then x g r l = Stage o (after x g r f) (move (judge o v x r) (x ∷ l))

  -- A1h is polled, or 51h comes at once
  wiped : (l : List Op) → Past l → Flagged o → (b : Bool) → Stage o (after Blank true Unread f) (move (polls_if b) (Blank ∷ ReadDiscInformation ∷ l))
  wiped l z g true = asking z refl g
  wiped l z g false = anew z refl g

  heard : (l : List Op) (n : ℕ) → Past l → f.erased ≡ true → Flagged o → (b : Bool) → Stage o (after RequestSense true (ProgressIndication n) f) (move (polls_if b) (RequestSense ∷ ReadDiscInformation ∷ l))
  heard l n z w g true = asking z w g
  heard l n z w g false = anew z w g

  stage_by : (x : Op) (l : List Op) (g : Bool) (r : Reading) (a b : Bool) → Reads x g r → Turn a x g b (judge o v x r) → Stage o f (x ∷ l) → Then x g r l
  stage_by x l g r a b (busy i) t (first z n u) = first z n u
  stage_by x l g r a b failed t (first z n u) = first z n u
  stage_by x l g r a b (malformed a46) t (first z n u) = first z n u
  stage_by x l g r a b profile t (first z n u) = asked z n u
  stage_by x l g r a b (unread q i) t (first z n u) = absurd (false≢true (sym q))
  stage_by x l g r a b (busy i) t (asked z n u) = asked z n u
  stage_by x l g r a b failed t (asked z n u) = asked z n u
  stage_by x l g r a b (malformed a51) t (asked z n u) = asked z n u
  stage_by x l g r a b (status {d = d}) t (asked z n u) = judged_first o v f d l z p (e ∙ n) n u o.erase refl
  stage_by x l g r a b (unread q i) t (asked z n u) = absurd (false≢true (sym q))
  stage_by x l g r a b (busy i) t (wiping z w) = wiping z w
  stage_by x l g r a b failed t (wiping z w) = wiping z w
  stage_by x l g r a b (malformed k) t (wiping z w) = elim k [ ]
  stage_by x l g r a b (unread q i) t (wiping {l = k} z w) = wiped k z (w.flagged, w.recordable) o.immed
  stage_by x l g r a b (busy i) t (asking z n k) = absurd (false≢true (sym i))
  stage_by x l g r a b not_ready_lem t (asking z n k) = hearing z n k
  stage_by x l g r a b failed t (asking z n k) = asking z n k
  stage_by x l g r a b (malformed m) t (asking z n k) = elim m [ ]
  stage_by x l g r a b ready t (asking z n k) = hearing z n k
  stage_by x l g r a b (unread q i) t (asking z n k) = absurd (false≢true (sym i))
  stage_by x l g r a b (busy i) t (hearing z n k) = hearing z n k
  stage_by x l g r a b failed t (hearing z n k) = hearing z n k
  stage_by x l g r a b (malformed a03) t (hearing z n k) = hearing z n k
  stage_by x l g r a b (indication {n = m}) t (hearing {l = j} z n k) = heard j m z n k (not (is_last v.ready m))
  stage_by x l g r a b (unread q i) t (hearing z n k) = absurd (false≢true (sym q))
  stage_by x l g r a b (busy i) t (anew z n k) = anew z n k
  stage_by x l g r a b failed t (anew z n k) = anew z n k
  stage_by x l g r a b (malformed a51) t (anew z n k) = anew z n k
  stage_by x l g r a b (status {d = d}) t (anew z n k) = judged_anew o v f d l z (e ∙ n) n k
  stage_by x l g r a b (unread q i) t (anew z n k) = absurd (false≢true (sym q))
  stage_by x l g r a b w t (past z n k) = past (past_turn a g b x l (judge o v x r) t z) (blanked_on o x g r f z.0 w n) k

pub stage : (o : Order) (es : List Exchange) → Played o es → Stage o (facts es) (left o es)
stage o es nothing = first (script_past o) refl refl
stage o es (then {es = before} {x = x} {l = l} p u e y) =
    subst (λ (m : List Op). Stage o (facts (made o before x y ∷ before)) (move (judged o before (made o before x y)) m)) (sym e)
    (stage_by o (seen o.method before) (facts before) (profile_seen o.method before) (erased_seen o.method before) x l y.good (reading x y) _ _ (reads x y) (turn o before x y) (subst (Stage o (facts before)) e (stage o before p)))

-- ---- what it says of the operation that is due

-- a 52h or a WRITE
abbrev pub is_later : Op → Bool
is_later x = eqb (code x) 0x52 || eqb (code x) 0x2A

module _ (o : Order) (f : Facts) where
  at_erasing : (x : Op) (l : List Op) → is_erasing x ≡ true → Stage o f (x ∷ l) → RightlyErased o f.profile f.disc f.erased
  at_erasing x l e (first z n u) = absurd (false≢true e)
  at_erasing x l e (asked z n u) = absurd (false≢true e)
  at_erasing x l e (wiping z w) = w
  at_erasing x l e (asking z n k) = absurd (false≢true e)
  at_erasing x l e (hearing z n k) = absurd (false≢true e)
  at_erasing x l e (anew z n k) = absurd (false≢true e)
  at_erasing x l e (past z n k) = absurd (false≢true (sym (not_erasing x z.0) ∙ e))

  at_later : (x : Op) (l : List Op) → is_later x ≡ true → Stage o f (x ∷ l) → BlankBefore o f.disc f.unblank × (o.erase ≡ true → Recordable o)
  at_later x l e (first z n u) = absurd (false≢true e)
  at_later x l e (asked z n u) = absurd (false≢true e)
  at_later x l e (wiping z w) = absurd (false≢true e)
  at_later x l e (asking z n k) = absurd (false≢true e)
  at_later x l e (hearing z n k) = absurd (false≢true e)
  at_later x l e (anew z n k) = absurd (false≢true e)
  at_later x l e (past z n k) = (n, k)

module _ (o : Order) (es : List Exchange) (x : Op) (l : List Op) (p : Played o es) (e : left o es ≡ x ∷ l) where
  here : Stage o (facts es) (x ∷ l)
  here = subst (Stage o (facts es)) e (stage o es p)

  pub rightly_erased : is_erasing x ≡ true → RightlyErased o (profileSaid es) (disc es) (erased es)
  rightly_erased i = at_erasing o (facts es) x l i here

  pub on_blank : is_later x ≡ true → BlankBefore o (disc es) (unblank es)
  on_blank i = (at_later o (facts es) x l i here).0

  pub was_recordable : is_later x ≡ true → o.erase ≡ true → Recordable o
  was_recordable i = (at_later o (facts es) x l i here).1

pub each_rightly : (o : Order) (es : List Exchange) → Played o es → Each (ErasesRightly o) es
each_rightly o es nothing = tt
each_rightly o es (then {es = before} {x = x} {l = l} p u e y) = (λ q. rightly_erased o before x l p e (ap is_erasing q), each_rightly o before p)

pub each_on_blank : (o : Order) (es : List Exchange) → Played o es → Each (WritesOnBlank o) es
each_on_blank o es nothing = tt
each_on_blank o es (then {es = before} {x = x} {l = l} p u e y) = (λ t f k q. on_blank o before x l p e (ap is_later q), each_on_blank o before p)
