-- Announcements and replies that are owed and put.
use Rattle.std.proofs.Common.{◌≡◌, ℕ, zero, suc, ◌+◌, ◌-◌, ◌≤◌, Bool, true, false, cond, List, [], ◌∷◌, ◌++◌, length, map, drop, Option, None, Some, refl, sym, ap, ◌∙◌, subst, arith, min, append_assoc}
use Rattle.std.specs.Prelude.{◌==◌, not, ◌||◌, find, option_map, option_and_then, slice_get, slice_index_or, slice_set}
use Rattle.std.proofs.lemmas.List.{append-nil, length-append, map-append}
use Rattle.board_model.specs.Journal.{Line, put_line, turn_line}
use Rattle.lane_end.specs.SendMoves.{Sent}
use Rattle.domain_parts.specs.LaneMoves.{LaneMove, sender}
use Rattle.domain_parts.specs.VisitMoves.{putting}
use Rattle.mc_base.specs.Limits.{name_service_address}
use Rattle.mc_base.specs.Frame.{made}
use Rattle.mc_base.specs.Announcement.{announcement}
use Rattle.endpoint_table.specs.Table.{Owing, Table, announcement_of, owing_to, paid_to, told_oldest}
use Rattle.board_model.specs.Deeds.{Deed, MayDo, puts_owed}
use Rattle.board_model.specs.State as state
use Rattle.domain_parts.specs.declared.peer.Peer.{Peer}
use Rattle.domain_parts.specs.declared.replies.Reply.{Reply}
use Rattle.domain_parts.specs.CallSteps.{Rests}
use Rattle.domain_parts.specs.Doing.{Doing, Puts, owed_at}
use Rattle.domain_parts.specs.LaneSeen.{LaneSeen, after_moves}
use Rattle.domain_parts.specs.Owed.{owed_by, put_lines, room_for}
use Rattle.domain_parts.specs.Parts.{Holding, Parts, Sound, nobody, peer_at, peer_seen, peers_seen, plain, state_of, parts_read}
use Rattle.domain_parts.specs.Peers.{announcement_in, peer_in, reply_in}
use Rattle.domain_parts.proofs.PeersAt.{find-place}
use Rattle.domain_parts.proofs.Turning.{did-numbers, doing-none, doing-then, same-number}
use Rattle.endpoint_table.specs.declared.announced.Announced.{Announced}

-- ---- what is owed

abbrev frames_of : ℕ → List Announced → List Reply → List (List ℕ)
frames_of domain xs rs = map (state.announcing domain) (map announcement_in xs) ++ map state.replying (map reply_in rs)

-- the oldest announcement that is owed is the first, and its frame is this
pub record IsOldest (domain : ℕ) (xs : List Announced) (frame : List ℕ) : Type 0 where
  pub first : Announced
  pub rest : List Announced
  pub are : xs ≡ first ∷ rest
  pub is : frame ≡ state.announcing domain (announcement_in first)

pub oldest-frame : (o : Option Owing) (domain address : ℕ) (name : List ℕ) (create : Bool) → Some (name, address, create) ≡ option_map (announcement_of domain) (option_and_then (λ (x : Owing). slice_get x.owed 0) o)
    → IsOldest domain (owed_by o) (made address name_service_address (announcement name address create))
oldest-frame None domain address name create e = absurd cc
oldest-frame (Some o) domain address name create e = elim o.owed as (λ xs. Some (name, address, create) ≡ option_map (announcement_of domain) (slice_get xs 0) → IsOldest domain xs (made address name_service_address (announcement name address create))) [
  | [] ↦ λ h. absurd cc
  | a ∷ xs ↦ λ h.
      let same : (name, address, create) ≡ announcement_of domain a = cc in
      let n = ap (λ (z : List ℕ × ℕ × Bool). z.0) same in
      let at = ap (λ (z : List ℕ × ℕ × Bool). z.1) same in
      let there = ap (λ (z : List ℕ × ℕ × Bool). z.2) same in
      record {
        first = a;
        rest = xs;
        are = refl;
        is =
            ap (λ (x : List ℕ). made address name_service_address (announcement x address create)) n
            ∙ ap (λ (x : ℕ). made x name_service_address (announcement (announcement_of domain a).0 x create)) at
            ∙ ap (λ (x : Bool). made a.address name_service_address (announcement (announcement_of domain a).0 a.address x)) there;
      }
] e

told-first : (peer : ℕ) (os : List Owing) → owed_by (find (λ o. o.peer == peer) (map (told_oldest peer) os)) ≡ drop 1 (owed_by (find (λ o. o.peer == peer) os))
told-first peer [] = refl
told-first peer (o ∷ os) = go (o.peer == peer) refl (told-first peer os)
  where
    go : (b : Bool) → (o.peer == peer) ≡ b → owed_by (find (λ o. o.peer == peer) (map (told_oldest peer) os)) ≡ drop 1 (owed_by (find (λ o. o.peer == peer) os))
        → owed_by (cond ((cond b (record o { owed = drop 1 o.owed }) o).peer == peer) (Some (cond b (record o { owed = drop 1 o.owed }) o)) (find (λ o. o.peer == peer) (map (told_oldest peer) os))) ≡ drop 1 (owed_by (cond b (Some o) (find (λ o. o.peer == peer) os)))
    go true e all = ap (λ (b : Bool). owed_by (cond b (Some (record o { owed = drop 1 o.owed })) (find (λ o. o.peer == peer) (map (told_oldest peer) os)))) e
    go false e all = ap (λ (b : Bool). owed_by (cond b (Some o) (find (λ o. o.peer == peer) (map (told_oldest peer) os)))) e ∙ all

-- the oldest announcement is put
pub announced-owed : (t : Table) (peer : ℕ) (rs : List Reply) (frame : List ℕ) → IsOldest t.domain (owed_by (owing_to t peer)) frame → frames_of t.domain (owed_by (owing_to t peer)) rs ≡ frame ∷ frames_of t.domain (owed_by (owing_to (paid_to t peer) peer)) rs
announced-owed t peer rs frame oldest =
    let left : owed_by (owing_to (paid_to t peer) peer) ≡ oldest.rest = told-first peer t.owing ∙ ap (drop 1) oldest.are in
    ap (λ (xs : List Announced). frames_of t.domain xs rs) oldest.are
    ∙ ap (λ (f : List ℕ). f ∷ frames_of t.domain oldest.rest rs) (sym oldest.is)
    ∙ ap (λ (xs : List Announced). frame ∷ frames_of t.domain xs rs) (sym left)

-- the oldest reply is put, where no announcement is owed
pub replied-owed : (domain : ℕ) (owed : List Announced) (rs : List Reply) (r : Reply) (frame : List ℕ) → owed ≡ [] → Some r ≡ slice_get rs 0 → frame ≡ state.replying (reply_in r) → frames_of domain owed rs ≡ frame ∷ frames_of domain owed (drop 1 rs)
replied-owed domain owed [] r frame none first is = absurd cc
replied-owed domain owed (q ∷ rs) r frame none first is =
    let same : r ≡ q = cc in
    ap (λ (xs : List Announced). frames_of domain xs (q ∷ rs)) none
    ∙ ap (λ (x : Reply). state.replying (reply_in x) ∷ frames_of domain [] rs) (sym same)
    ∙ ap (λ (f : List ℕ). f ∷ frames_of domain [] rs) (sym is)
    ∙ ap (λ (xs : List Announced). frame ∷ frames_of domain xs rs) (sym none)

-- nothing is owed
pub none-owed : (o : Option Owing) → None ≡ option_and_then (λ (x : Owing). slice_get x.owed 0) o → owed_by o ≡ []
none-owed None e = refl
none-owed (Some o) e = go o.owed e
  where
    go : (xs : List Announced) → None ≡ slice_get xs 0 → xs ≡ []
    go [] e = refl
    go (x ∷ xs) e = absurd cc

-- ---- one after the other

putting-push : (fs : List (List ℕ)) (f : List ℕ) → putting (fs ++ f ∷ []) ≡ putting fs ++ putting (f ∷ [])
putting-push [] f = refl
putting-push (g ∷ fs) f = ap (λ (ms : List LaneMove). sender (Sent g) ∷ ms) (putting-push fs f)

some-frames : (n : ℕ) → (suc n == 0) ≡ false
some-frames n = grind arith

lines-push : (begun : Bool) (peer : ℕ) (fs : List (List ℕ)) (f : List ℕ) → put_lines begun peer (fs ++ f ∷ []) ≡ put_lines begun peer fs ++ put_lines (begun || not (length fs == 0)) peer (f ∷ [])
lines-push true peer [] f = refl
lines-push false peer [] f = refl
lines-push true peer (g ∷ fs) f = map-append (put_line peer) (g ∷ fs) (f ∷ [])
lines-push false peer (g ∷ fs) f =
    ap (λ (ls : List Line). turn_line ∷ ls) (map-append (put_line peer) (g ∷ fs) (f ∷ []))
    ∙ ap (λ (b : Bool). put_lines false peer (g ∷ fs) ++ put_lines (not b) peer (f ∷ [])) (sym (some-frames (length fs)))

-- ---- a frame that is owed may be put

pub may-put : (p : Parts) (sound : Sound p) (i : ℕ) (x : Peer LaneSeen) → slice_get p.peers i ≡ Some x → (frame : List ℕ) (rest : List (List ℕ)) → state.owed_to p.table.domain (peer_in plain (parts_read p) p.table x) ≡ frame ∷ rest → MayDo (state_of p) (puts_owed x.number frame)
may-put p sound i x there frame rest owed = (peer_in plain (parts_read p) p.table x, rest, find-place plain (parts_read p) p.table i p.peers x sound.peers.rising there, owed)

-- the peer at a place that was set
pub set-peer : {L : Type 0} (v : L → LaneSeen) (ps : List (Peer L)) (i : ℕ) (x y : Peer L) → slice_get ps i ≡ Some x → slice_index_or (peers_seen v (slice_set ps i y)) i nobody ≡ peer_seen v y
set-peer v [] i x y there = absurd cc
set-peer v (z ∷ ps) zero x y there = refl
set-peer v (z ∷ ps) (suc i) x y there = set-peer v ps i x y there

-- ---- what is free after it

pub free-put : (fs : List (List ℕ)) (l : LaneSeen) → after_moves (putting fs) l ≡ record l { free = l.free - length fs }
free-put [] l = let same : l.free ≡ l.free - 0 = omega arith in ap (λ (n : ℕ). record l { free = n }) same
free-put (f ∷ fs) l = let less : l.free - 1 - length fs ≡ l.free - length (f ∷ fs) = omega arith in free-put fs (record l { free = l.free - 1 }) ∙ ap (λ (n : ℕ). record l { free = n }) less

pub puts-none : {L : Type 0} (M : L → List LaneMove → L → Type 0) (i : ℕ) (begun : Bool) (h : Holding L) (lines : List Line) → Rests M h → Puts M i begun [] h h lines lines
puts-none M i begun h lines rests = record { owed = refl; doing = doing-none M (peer_at h.parts i).number h rests; told = sym (append-nil lines) }

module _ {L : Type 0} (M : L → List LaneMove → L → Type 0) (m-both : (a b c : L) (xs ys : List LaneMove) → M a xs b → M b ys c → M a (xs ++ ys) c) where
  pub Puts-more : (i : ℕ) (begun begun' : Bool) (fs : List (List ℕ)) (f : List ℕ) (a b c : Holding L) (ls ls' ls'' : List Line) → begun' ≡ (begun || not (length fs == 0)) → Puts M i begun fs a b ls ls' → Puts M i begun' (f ∷ []) b c ls' ls'' → Puts M i begun (fs ++ f ∷ []) a c ls ls''
  Puts-more i begun begun' fs f a b c ls ls' ls'' begins so_far one =
      let peer = (peer_at a.parts i).number in
      let same : (peer_at b.parts i).number ≡ peer = same-number a.parts b.parts i (did-numbers M so_far.doing.steps a b so_far.doing.did) in
      let told = one.told ∙ ap (λ (n : ℕ). ls' ++ put_lines begun' n (f ∷ [])) same in
      let doing : Doing M peer (puts_owed peer f ∷ []) (putting (f ∷ [])) b c = subst (λ (n : ℕ). Doing M n (puts_owed n f ∷ []) (putting (f ∷ [])) b c) same one.doing in
      let both = doing-then M m-both peer (map (puts_owed peer) fs) (puts_owed peer f ∷ []) (putting fs) (putting (f ∷ [])) a b c so_far.doing doing in
      record {
        owed = so_far.owed ∙ ap (λ (xs : List (List ℕ)). fs ++ xs) one.owed ∙ sym (append_assoc fs (f ∷ []) (owed_at c.parts i));
        doing = subst (λ (ds : List Deed). Doing M peer ds (putting (fs ++ f ∷ [])) a c) (sym (map-append (puts_owed peer) fs (f ∷ []))) (subst (λ (ms : List LaneMove). Doing M peer (map (puts_owed peer) fs ++ puts_owed peer f ∷ []) ms a c) (sym (putting-push fs f)) both);
        told = told
            ∙ ap (λ (xs : List Line). xs ++ put_lines begun' peer (f ∷ [])) so_far.told
            ∙ append_assoc ls (put_lines begun peer fs) (put_lines begun' peer (f ∷ []))
            ∙ ap (λ (g : Bool). ls ++ (put_lines begun peer fs ++ put_lines g peer (f ∷ []))) begins
            ∙ ap (λ (xs : List Line). ls ++ xs) (sym (lines-push begun peer fs f));
      }

-- no more are owed, or no buffer is free
pub all-due : (free : ℕ) (fs owed left : List (List ℕ)) → owed ≡ fs ++ left → length fs ≤ 8 → length fs ≤ free → min (length left) (free - length fs) ≡ 0 → length fs ≡ min 8 (min free (length owed))
all-due free fs owed left are few within none = let long = ap length are ∙ length-append fs left in omega (arith, long, none, few, within)

pub eight-due : (free : ℕ) (fs owed left : List (List ℕ)) → owed ≡ fs ++ left → length fs ≡ 8 → length fs ≤ free → length fs ≡ min 8 (min free (length owed))
eight-due free fs owed left are all within = let long = ap length are ∙ length-append fs left in omega (arith, long, all, within)

pub room-range : (b : Bool) → (1 ≤ room_for b) × (room_for b ≤ 2)
room-range true = (omega arith, omega arith)
room-range false = (omega arith, omega arith)

pub some-put : (b : Bool) (k : ℕ) → true ≡ (b || not (k + 1 == 0))
some-put true k = refl
some-put false k = let e : (k + 1 == 0) ≡ false = grind arith in ap not (sym e)
