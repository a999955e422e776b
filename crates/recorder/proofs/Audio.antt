-- A track at once with an audio track: what 24 says of the order's kinds, and that no such job is past the commands that open it.
use mathlib.Core.Path.{◌≡◌, refl, sym, ap, subst, ◌∙◌}
use mathlib.Core.Bool.{Bool, true, false, not, ◌&&◌, ◌||◌}
use mathlib.Core.List.{List, [], ◌∷◌, ◌++◌}
use Rattle.basics.specs.Bytes.{if}
use Rattle.mmc.specs.Order.{tracks_in, same_kind, all_kind}
use Rattle.mmc.specs.declared.order.Order.{Order}
use Rattle.mmc.specs.declared.order.Track.{Track}
use Rattle.mmc.specs.declared.order.Kind.{Kind}
use Rattle.mmc.specs.declared.order.Kind.TheVariants.{Audio, Data}
use Rattle.mmc.specs.declared.order.Method.{Method}
use Rattle.mmc.specs.declared.order.Method.TheVariants.{Tao, Sao}
use Rattle.recorder.specs.declared.script.Op.{Op}
use Rattle.recorder.specs.declared.script.Op.TheVariants.{GetConfiguration, ReadDiscInformation, ReadTrackInformation}
use Rattle.recorder.specs.declared.replies.DiscInformation.{DiscInformation}
use Rattle.recorder.specs.declared.replies.TrackInformation.{TrackInformation}
use Rattle.recorder.specs.declared.replies.Reading.{Reading}
use Rattle.recorder.specs.declared.exchanges.Seen.{Seen}
use Rattle.recorder.specs.Replies.{reading}
use Rattle.recorder.specs.Script.{is_erasing, before_tracks, each_track, script}
use Rattle.recorder.specs.Exchanges.{Exchange, erased, seen}
use Rattle.recorder.specs.Rules.{audio_by, audio_in_tao, used, Judgement, tested, erasing_tests, blank_tests, disc_tests, erases, erasing_if, opening_tests, later_tests, judge, judged, move, left}
use Rattle.recorder.specs.History.{Each, HasAudio, is_opening, OnlyOpens}
use Rattle.std.proofs.lemmas.Bool.{false≢true}
use Rattle.recorder.proofs.Lists.{clash, never, tested_by}
use Rattle.recorder.proofs.Turns.{a03, not_ready_lem, indication, ready, made, Played, nothing, then, Reads, busy, failed, malformed, a46, a51, a52, profile, status, information, unread, reads, erased_seen}
use Rattle.recorder.proofs.Scripts.{by}

-- ---- 24 applies just where an audio track stands in a track at once

audio_among : (before after : List Track) (x : Track) → x.kind ≡ Audio → all_kind Data (before ++ (x ∷ after)) ≡ false
unfolding all_kind
audio_among [] after x e = ap (λ (k : Kind). same_kind Data k && all_kind Data after) e
audio_among (y ∷ before) after x e = ap (λ (b : Bool). same_kind Data y.kind && b) (audio_among before after x e) ∙ never (same_kind Data y.kind)

first_found : (x : Track) (xs : List Track) → (k : Kind) → x.kind ≡ k → same_kind Data k && all_kind Data xs ≡ false → (all_kind Data xs ≡ false → HasAudio xs) → HasAudio (x ∷ xs)
first_found x xs Audio q e f = record { before = []; track = x; after = xs; among = refl; is_audio = q }
first_found x xs Data q e f =
    let a = f e in
    record { before = x ∷ a.before; track = a.track; after = a.after; among = ap (λ (l : List Track). x ∷ l) a.among; is_audio = a.is_audio }

audio_found : (xs : List Track) → all_kind Data xs ≡ false → HasAudio xs
unfolding all_kind
audio_found [] e = absurd (false≢true (sym e))
audio_found (x ∷ xs) e = first_found x xs x.kind refl e (audio_found xs)

audio_applies : (o : Order) → o.method ≡ Tao → HasAudio (tracks_in o) → audio_in_tao o ≡ true
audio_applies o e a =
    ap (λ (m : Method). audio_by m (tracks_in o)) e ∙
    ap (λ (xs : List Track). not (all_kind Data xs)) a.among ∙ ap not (audio_among a.before a.after a.track a.is_audio)

pub no_audio_so : (o : Order) → audio_in_tao o ≡ false → o.method ≡ Tao → HasAudio (tracks_in o) → ⊥
no_audio_so o c e a = false≢true (sym c ∙ audio_applies o e a)

pub audio_clear : (o : Order) → (o.method ≡ Tao → HasAudio (tracks_in o) → ⊥) → audio_in_tao o ≡ false
audio_clear o n = go o.method n
  where
    go : (m : Method) → (m ≡ Tao → HasAudio (tracks_in o) → ⊥) → audio_by m (tracks_in o) ≡ false
    go Tao n = all (all_kind Data (tracks_in o)) refl
      where
        all : (b : Bool) → all_kind Data (tracks_in o) ≡ b → not b ≡ false
        all true q = refl
        all false q = absurd (n refl (audio_found (tracks_in o) q))
    go Sao n = refl

-- ---- what is left of the plan of such a job

-- the first track's 52h
abbrev first52 : Op
first52 = ReadTrackInformation (record { 0 = 1 })

data Opens (erase : Bool) : List Op → Type 0 where
  at_46 : {l : List Op} → Opens erase (GetConfiguration ∷ ReadDiscInformation ∷ first52 ∷ l)
  at_51 : {l : List Op} → Opens erase (ReadDiscInformation ∷ first52 ∷ l)
  at_52 : {l : List Op} → erase ≡ false → Opens erase (first52 ∷ l)

script_opens : (o : Order) → o.method ≡ Tao → HasAudio (tracks_in o) → Opens o.erase (script o)
script_opens o e a = go o.method e (tracks_in o) a
  where
    some : (before after : List Track) (x : Track) → [] ≡ before ++ (x ∷ after) → ⊥
    some [] after x e = clash (cc)
    some (y ∷ before) after x e = clash (cc)

    go : (m : Method) → m ≡ Tao → (xs : List Track) → HasAudio xs → Opens o.erase (GetConfiguration ∷ ReadDiscInformation ∷ before_tracks (by o m) (each_track (by o m) 0 xs))
    go Tao e [] a = absurd (some a.before a.after a.track a.among)
    go Tao e (x ∷ xs) a = at_46
    go Sao e xs a = clash (cc)

-- ---- a reply leaves it there: 24 applies at the 52h, and with flag bit 3 at the 51h

module _ (o : Order) (a : audio_in_tao o ≡ true) (v : Seen) where
  at_disc : (d : DiscInformation) (l : List Op) → v.erased ≡ false → (b : Bool) → Opens b (move (tested (disc_tests b o v d) (erasing_if (erases b v.erased d.status))) (ReadDiscInformation ∷ first52 ∷ l))
  at_disc d l n false = at_52 refl
  at_disc d l n true =
      subst (λ (b : Bool). Opens true (move (tested (if b (blank_tests d) (erasing_tests o v.profile d)) (erasing_if (not b && used d.status))) (ReadDiscInformation ∷ first52 ∷ l))) (sym n)
      (tested_by (λ (j : Judgement). Opens true (move j (ReadDiscInformation ∷ first52 ∷ l))) (erasing_tests o v.profile d) _ (λ c. absurd (false≢true (sym c.1.1.0 ∙ a))) (λ k. at_51))

  at_track : (i : TrackInformation) (l : List Op) (b : Bool) → b ≡ false → Opens b (move (tested (if (not b) (opening_tests o 1 v i) (later_tests o 1 v i)) []) (first52 ∷ l))
  at_track i l true e = absurd (false≢true (sym e))
  at_track i l false e =
      tested_by (λ (j : Judgement). Opens false (move j (first52 ∷ l))) (opening_tests o 1 v i) [] (λ c. absurd (false≢true (sym c.1.1.1.0 ∙ a))) (λ k. at_52 refl)

  opens_by : (x : Op) (l : List Op) (g : Bool) (r : Reading) → v.erased ≡ false → Reads x g r → Opens o.erase (x ∷ l) → Opens o.erase (move (judge o v x r) (x ∷ l))
  opens_by x l g r n (busy i) at_46 = at_46
  opens_by x l g r n failed at_46 = at_46
  opens_by x l g r n (malformed a46) at_46 = at_46
  opens_by x l g r n profile at_46 = at_51
  opens_by x l g r n (unread q i) at_46 = absurd (false≢true (sym q))
  opens_by x l g r n (busy i) at_51 = at_51
  opens_by x l g r n failed at_51 = at_51
  opens_by x l g r n (malformed a51) at_51 = at_51
  opens_by x l g r n (status {d = d}) (at_51 {l = k}) = at_disc d k n o.erase
  opens_by x l g r n (unread q i) at_51 = absurd (false≢true (sym q))
  opens_by x l g r n (busy i) (at_52 e) = at_52 e
  opens_by x l g r n failed (at_52 e) = at_52 e
  opens_by x l g r n (malformed a52) (at_52 e) = at_52 e
  opens_by x l g r n (information {i = i}) (at_52 e) = at_track i l o.erase e
  opens_by x l g r n (unread q i) (at_52 e) = absurd (false≢true (sym q))
  opens_by x l g r n not_ready_lem s = elim s [ ]
  opens_by x l g r n (malformed a03) s = elim s [ ]
  opens_by x l g r n indication s = elim s [ ]
  opens_by x l g r n ready s = elim s [ ]

-- none of them erases
unerased : (erase g b : Bool) (x : Op) (l : List Op) → Opens erase (x ∷ l) → (g && is_erasing x) || b ≡ b
unerased erase g b x l at_46 = ap (λ (c : Bool). c || b) (never g)
unerased erase g b x l at_51 = ap (λ (c : Bool). c || b) (never g)
unerased erase g b x l (at_52 e) = ap (λ (c : Bool). c || b) (never g)

opens : (o : Order) (es : List Exchange) → o.method ≡ Tao → HasAudio (tracks_in o) → Played o es → (erased es ≡ false) × Opens o.erase (left o es)
opens o es e a nothing = (refl, script_opens o e a)
opens o es e a (then {es = before} {x = x} {l = l} p u q y) =
    let i = opens o before e a p in
    let h : Opens o.erase (x ∷ l) = subst (Opens o.erase) q i.1 in (
      unerased o.erase y.good (erased before) x l h ∙ i.0,
      subst (λ (m : List Op). Opens o.erase (move (judged o before (made o before x y)) m)) (sym q)
          (opens_by o (audio_applies o e a) (seen o.method before) x l y.good (reading x y) (erased_seen o.method before ∙ i.0) (reads x y) h),
    )

-- ---- what it says of the operation that is due

head_opens : (erase : Bool) (x : Op) (l : List Op) → Opens erase (x ∷ l) → is_opening erase x ≡ true
head_opens erase x l at_46 = refl
head_opens erase x l at_51 = refl
head_opens erase x l (at_52 e) = ap not e

pub due_opens : (o : Order) (es : List Exchange) (x : Op) (l : List Op) → o.method ≡ Tao → HasAudio (tracks_in o) → Played o es → left o es ≡ x ∷ l → is_opening o.erase x ≡ true
due_opens o es x l e a p q = head_opens o.erase x l (subst (Opens o.erase) q (opens o es e a p).1)

pub each_opens : (o : Order) (es : List Exchange) → o.method ≡ Tao → HasAudio (tracks_in o) → Played o es → Each (OnlyOpens o) es
each_opens o es e a nothing = tt
each_opens o es e a (then {es = before} {x = x} {l = l} p u q y) = (due_opens o before x l e a p q, each_opens o before e a p)
