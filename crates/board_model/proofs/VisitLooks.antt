-- A visit: its looks and owed frames, then the frames that it takes.
use Rattle.std.proofs.Common.{◌≡◌, ℕ, ◌+◌, ◌-◌, min, Bool, true, false, cond, List, [], ◌∷◌, ◌++◌, map, drop, length, Option, Some, None, refl, sym, ap, ◌∙◌, subst, arith, take-append-drop}
use Rattle.std.specs.Prelude.{option_map, ◌==◌}
use Rattle.std.proofs.lemmas.Bool.{ne_eqb, eq-eqb}
use Rattle.std.proofs.lemmas.List.{append_assoc}
use Rattle.mc_base.specs.Limits.{turn_limit}
use Rattle.board_model.specs.Journal.{Visit, Taken}
use Rattle.board_model.specs.State.{Announcement, Reply, Peer, DomainState, peer_at, peer_of, replying, owed_to}
use Rattle.board_model.specs.Change.{first_put, owed_put, buffers_back, frames_shown, changed}
use Rattle.board_model.specs.Deeds.{looks_back, puts_owed, looks_ahead, after_deeds, AllMayDo}
use Rattle.board_model.specs.Turn.{due_frames, nameless, takes_named, visit_deeds, after_visit}
use Rattle.board_model.specs.Serial.{looks_deeds}
use Rattle.board_model.proofs.LanePeers.{peer_found, peer-changed, first-free}
use Rattle.board_model.proofs.DeedJoins.{may-join, may-back, after-join}

-- the state after the looks and the owed frames of a visit, and after frames that are taken
abbrev pub after_looks : DomainState → Visit → DomainState
after_looks s v = after_deeds s (looks_deeds v.peer v.back v.owed v.see)

abbrev pub after_takes : DomainState → ℕ → List Taken → DomainState
after_takes s peer ts = after_deeds s (takes_named nameless peer ts)

-- each frame has the word of its row
abbrev pub HaveWords : DomainState → ℕ → List Taken → Type 0
HaveWords s peer ts = AllMayDo s (takes_named nameless peer ts)

pub visit-split : (name : ℕ → Option ℕ) (v : Visit) → visit_deeds name v ≡ looks_deeds v.peer v.back v.owed v.see ++ takes_named name v.peer v.takes
visit-split name v = ap (λ ds. looks_back v.peer v.back ∷ ds) (sym (append_assoc (map (puts_owed v.peer) v.owed) (looks_ahead v.peer v.see ∷ []) (takes_named name v.peer v.takes)))

pub visit-after : (s : DomainState) (v : Visit) → after_visit s v ≡ after_takes (after_looks s v) v.peer v.takes
visit-after s v = ap (after_deeds s) (visit-split nameless v) ∙ after-join s (looks_deeds v.peer v.back v.owed v.see) (takes_named nameless v.peer v.takes)

pub visit-words : (s : DomainState) (v : Visit) → AllMayDo s (visit_deeds nameless v) → HaveWords (after_looks s v) v.peer v.takes
visit-words s v may = may-back s (looks_deeds v.peer v.back v.owed v.see) (takes_named nameless v.peer v.takes) (subst (AllMayDo s) (visit-split nameless v) may)

pub looks-after : (s : DomainState) (v : Visit) → after_looks s v ≡ changed (after_deeds (changed s (buffers_back v.peer v.back)) (map (puts_owed v.peer) v.owed)) (frames_shown v.peer v.see)
looks-after s v = after-join (changed s (buffers_back v.peer v.back)) (map (puts_owed v.peer) v.owed) (looks_ahead v.peer v.see ∷ [])

-- what looks and owed frames leave as it is
module _ {X : Type 0} (f : DomainState → X) (backs : (t : DomainState) (p n : ℕ) → f (changed t (buffers_back p n)) ≡ f t) (puts : (t : DomainState) (p : ℕ) → f (changed t (owed_put p)) ≡ f t) (sees : (t : DomainState) (p n : ℕ) → f (changed t (frames_shown p n)) ≡ f t) where
  puts_keep : (p : ℕ) (fs : List (List ℕ)) (t : DomainState) → f (after_deeds t (map (puts_owed p) fs)) ≡ f t
  puts_keep p [] t = refl
  puts_keep p (x ∷ fs) t = puts_keep p fs (changed t (owed_put p)) ∙ puts t p

  pub looks-keep : (s : DomainState) (v : Visit) → f (after_looks s v) ≡ f s
  looks-keep s v =
      ap f (looks-after s v)
      ∙ (sees (after_deeds (changed s (buffers_back v.peer v.back)) (map (puts_owed v.peer) v.owed)) v.peer v.see
      ∙ (puts_keep v.peer v.owed (changed s (buffers_back v.peer v.back)) ∙ backs s v.peer v.back))

-- ---- the peer that is looked at

abbrev pub puts_of : List (List ℕ) → Peer → Peer
puts_of [] p = p
puts_of (f ∷ fs) p = puts_of fs (first_put p)

abbrev pub looked : Visit → Peer → Peer
looked v p = record (puts_of v.owed (record p { free = p.free + v.back })) { shown = v.see }

puts-free : (fs : List (List ℕ)) (p : Peer) → (puts_of fs p).free ≡ p.free - length fs
puts-free [] p = omega arith
puts-free (f ∷ fs) p = omega (arith, puts-free fs (first_put p), first-free p)

pub looked-free : (v : Visit) (p : Peer) → (looked v p).free ≡ p.free + v.back - length v.owed
looked-free v p = puts-free v.owed (record p { free = p.free + v.back })

option_map-cond : (b : Bool) (o : Option Peer) → o ≡ option_map (λ p. cond b p p) o
option_map-cond b None = refl
option_map-cond true (Some p) = refl
option_map-cond false (Some p) = refl

-- one after the other
fused : (f g : Peer → Peer) (b : Bool) (o : Option Peer) → option_map (λ p. cond b (f p) p) (option_map (λ p. cond b (g p) p) o) ≡ option_map (λ p. cond b (f (g p)) p) o
fused f g b None = refl
fused f g true (Some p) = refl
fused f g false (Some p) = refl

puts_peer : (m n : ℕ) (b : Bool) → (m == n) ≡ b → (fs : List (List ℕ)) (s : DomainState) → peer_at (after_deeds s (map (puts_owed m) fs)) n ≡ option_map (λ p. cond b (puts_of fs p) p) (peer_at s n)
puts_peer m n b is [] s = option_map-cond b (peer_at s n)
puts_peer m n b is (f ∷ fs) s =
    puts_peer m n b is fs (changed s (owed_put m))
    ∙ (ap (option_map (λ (p : Peer). cond b (puts_of fs p) p)) (peer-changed s (owed_put m) n ∙ ap (λ c. option_map (λ (p : Peer). cond c (first_put p) p) (peer_at s n)) is)
    ∙ fused (puts_of fs) first_put b (peer_at s n))

pub looks-peer : (s : DomainState) (v : Visit) (n : ℕ) (b : Bool) → (v.peer == n) ≡ b → peer_at (after_looks s v) n ≡ option_map (λ p. cond b (looked v p) p) (peer_at s n)
looks-peer s v n b is =
    let back : DomainState = changed s (buffers_back v.peer v.back) in
    let sees : Peer → Peer = λ p. record p { shown = v.see } in
    let gets : Peer → Peer = λ p. record p { free = p.free + v.back } in
    ap (λ t. peer_at t n) (looks-after s v)
    ∙ (peer-changed (after_deeds back (map (puts_owed v.peer) v.owed)) (frames_shown v.peer v.see) n
    ∙ (ap (λ c. option_map (λ (p : Peer). cond c (sees p) p) (peer_at (after_deeds back (map (puts_owed v.peer) v.owed)) n)) is
    ∙ (ap (option_map (λ (p : Peer). cond b (sees p) p)) (puts_peer v.peer n b is v.owed back)
    ∙ (fused sees (puts_of v.owed) b (peer_at back n)
    ∙ (ap (option_map (λ (p : Peer). cond b (sees (puts_of v.owed p)) p)) (peer-changed s (buffers_back v.peer v.back) n ∙ ap (λ c. option_map (λ (p : Peer). cond c (gets p) p) (peer_at s n)) is)
    ∙ fused (λ p. sees (puts_of v.owed p)) gets b (peer_at s n))))))

-- ---- what is put is owed

replies_less : (rs : List Reply) → map replying (drop 1 rs) ≡ drop 1 (map replying rs)
replies_less [] = refl
replies_less (r ∷ rs) = refl

pub put_owed : (d : ℕ) (p : Peer) (news : List Announcement) → owed_to d (first_put (record p { announcements = news })) ≡ drop 1 (owed_to d (record p { announcements = news }))
put_owed d p [] = replies_less p.replies
put_owed d p (a ∷ news) =
    ap (λ b. owed_to d (cond b (record p { free = p.free - 1; announcements = a ∷ news; replies = drop 1 p.replies }) (record p { free = p.free - 1; announcements = news }))) (ne_eqb (length (a ∷ news)) 0 (λ e. absurd (omega arith)))

puts_may : (n : ℕ) (fs rest : List (List ℕ)) (s : DomainState) (p : Peer) → peer_at s n ≡ Some p → owed_to s.number p ≡ fs ++ rest → AllMayDo s (map (puts_owed n) fs)
puts_may n [] rest s p is owed = tt
puts_may n (f ∷ fs) rest s p is owed = (
  (p, fs ++ rest, is, owed),
  puts_may n fs rest (changed s (owed_put n)) (first_put p)
      (peer-changed s (owed_put n) n ∙ (ap (option_map (λ q. cond (n == n) (first_put q) q)) is ∙ ap (λ b. Some (cond b (first_put p) p)) (eq-eqb n n refl)))
      (put_owed s.number p p.announcements ∙ ap (drop 1) owed),
)

-- a visit that puts what is due, and whose frames have the words of their rows, may be done
pub visit-may : (s : DomainState) (v : Visit) (at : Peer) → peer_of s v.peer ≡ Some at → v.owed ≡ due_frames s.number at v.back → HaveWords (after_looks s v) v.peer v.takes → AllMayDo s (visit_deeds nameless v)
visit-may s v at known due words =
    let n : ℕ = min turn_limit (at.free + v.back) in
    let back : DomainState = changed s (buffers_back v.peer v.back) in
    let found : peer_at back v.peer ≡ Some (record at { free = at.free + v.back }) =
    peer-changed s (buffers_back v.peer v.back) v.peer
    ∙ (ap (option_map (λ (q : Peer). cond (v.peer == v.peer) (record q { free = q.free + v.back }) q)) (sym (peer_found s v.peer) ∙ known)
    ∙ ap (λ b. Some (cond b (record at { free = at.free + v.back }) at)) (eq-eqb v.peer v.peer refl)) in
    let owed : owed_to s.number at ≡ v.owed ++ drop n (owed_to s.number at) = sym (take-append-drop n (owed_to s.number at)) ∙ ap (λ fs. fs ++ drop n (owed_to s.number at)) (sym due) in
    subst (AllMayDo s) (sym (visit-split nameless v))
    (may-join s (looks_deeds v.peer v.back v.owed v.see) (takes_named nameless v.peer v.takes)
    (tt, may-join back (map (puts_owed v.peer) v.owed) (looks_ahead v.peer v.see ∷ []) (puts_may v.peer v.owed (drop n (owed_to s.number at)) back (record at { free = at.free + v.back }) found owed) (tt, tt))
    words)
