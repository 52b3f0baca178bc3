-- The peer of a number, as peers change, and what is read of it.
use Rattle.std.proofs.Common.{◌≡◌, ℕ, ◌+◌, ◌-◌, Bool, true, false, cond, List, [], ◌∷◌, ◌++◌, map, drop, length, Option, Some, None, find, option_map, refl, sym, ap, ◌∙◌, eqb-true, inl, inr}
use Rattle.std.specs.Prelude.{◌==◌, unwrap_or}
use Rattle.std.specs.List.{AllByRecursion}
use Rattle.std.proofs.lemmas.Bool.{cond_both}
use Rattle.std.proofs.lemmas.Bool.Decides.{eqb_tells}
use Rattle.board_model.specs.State.{DomainState, Announcement, Peer, is_numbered, peer_at, peer_of, free_to}
use Rattle.board_model.specs.Change.{Change, end_announced, reply_owed, owed_put, buffers_back, frames_shown, frame_taken, names_known, buffers_used, also_owed, first_put, changed, changed_all}
use Rattle.board_model.proofs.MessageLists.{changed_first, get-position}
use Rattle.board_model.proofs.ListsMapped.{find-mapped}

-- the lane's free buffers, by the first peer of the number
abbrev pub free_in : ℕ → List Peer → ℕ
free_in n ps = unwrap_or (option_map (λ p. p.free) (find (is_numbered n) ps)) 0

pub peer_found : (s : DomainState) (n : ℕ) → peer_of s n ≡ find (is_numbered n) s.peers
peer_found s n = get-position (is_numbered n) s.peers

pub free_found : (s : DomainState) (n : ℕ) → free_to s n ≡ free_in n s.peers
free_found s n = ap (λ (o : Option Peer). unwrap_or (option_map (λ p. p.free) o) 0) (peer_found s n)

-- ---- the peer of a number changes

module _ (f : Peer → Peer) (number : (p : Peer) → (f p).number ≡ p.number) where
  other_first : (n m : ℕ) → (m ≡ n → ⊥) → (ps : List Peer) → find (is_numbered n) (changed_first (is_numbered m) f ps) ≡ find (is_numbered n) ps
  other_first n m differ [] = refl
  other_first n m differ (p ∷ ps) = go (p.number == m) refl (other_first n m differ ps)
    where
      go : (b : Bool) → (p.number == m) ≡ b → find (is_numbered n) (changed_first (is_numbered m) f ps) ≡ find (is_numbered n) ps → find (is_numbered n) (cond b (f p ∷ ps) (p ∷ changed_first (is_numbered m) f ps)) ≡ find (is_numbered n) (p ∷ ps)
      go true here rest =
          let is_m : p.number ≡ m = eqb-true p.number m here in
          let not_n : (p.number == n) ≡ false = elim (eqb_tells p.number n) [ inl same ↦ absurd (differ (sym is_m ∙ same.1)) | inr other ↦ other.0 ] in
          ap (λ (k : ℕ). cond (k == n) (Some (f p)) (find (is_numbered n) ps)) (number p)
          ∙ ap (λ b. cond b (Some (f p)) (find (is_numbered n) ps)) not_n
          ∙ sym (ap (λ b. cond b (Some p) (find (is_numbered n) ps)) not_n)
      go false other rest = ap (λ o. cond (p.number == n) (Some p) o) rest

  pub own_first : (n : ℕ) (ps : List Peer) → find (is_numbered n) (changed_first (is_numbered n) f ps) ≡ option_map f (find (is_numbered n) ps)
  own_first n [] = refl
  own_first n (p ∷ ps) = go (p.number == n) refl (own_first n ps)
    where
      go : (b : Bool) → (p.number == n) ≡ b → find (is_numbered n) (changed_first (is_numbered n) f ps) ≡ option_map f (find (is_numbered n) ps) → find (is_numbered n) (cond b (f p ∷ ps) (p ∷ changed_first (is_numbered n) f ps)) ≡ option_map f (cond b (Some p) (find (is_numbered n) ps))
      go true here rest = ap (λ (k : ℕ). cond (k == n) (Some (f p)) (find (is_numbered n) ps)) (number p) ∙ ap (λ b. cond b (Some (f p)) (find (is_numbered n) ps)) here
      go false other rest = ap (λ b. cond b (Some p) (find (is_numbered n) (changed_first (is_numbered n) f ps))) other ∙ rest

-- ---- the peer of a number, after a change

abbrev pub peer_after : ℕ → Change → ℕ → Peer → Peer
peer_after d (end_announced a) n p = also_owed d a p
peer_after d (reply_owed m r) n p = cond (m == n) (record p { replies = p.replies ++ r ∷ [] }) p
peer_after d (owed_put m) n p = cond (m == n) (first_put p) p
peer_after d (buffers_back m count) n p = cond (m == n) (record p { free = p.free + count }) p
peer_after d (frames_shown m count) n p = cond (m == n) (record p { shown = count }) p
peer_after d (frame_taken m part names) n p = cond (m == n) (record p { shown = p.shown - 1; part = part }) p
peer_after d (names_known m names) n p = cond (m == n) (record p { known = names }) p
peer_after d (buffers_used m count) n p = cond (m == n) (record p { free = p.free - count }) p
peer_after d other n p = p

found_first : (f : Peer → Peer) → ((p : Peer) → (f p).number ≡ p.number) → (m n : ℕ) (ps : List Peer) → find (is_numbered n) (changed_first (is_numbered m) f ps) ≡ option_map (λ p. cond (m == n) (f p) p) (find (is_numbered n) ps)
found_first f number m n ps = elim (eqb_tells m n) [
  | inl same ↦
      ap (λ k. find (is_numbered n) (changed_first (is_numbered k) f ps)) same.1
      ∙ (own_first f number n ps ∙ ap (λ b. option_map (λ p. cond b (f p) p) (find (is_numbered n) ps)) (sym same.0))
  | inr differ ↦
      other_first f number n m differ.1 ps
      ∙ (sym (option_map-id (find (is_numbered n) ps)) ∙ ap (λ b. option_map (λ p. cond b (f p) p) (find (is_numbered n) ps)) (sym differ.0))
]
  where
    option_map-id : (o : Option Peer) → option_map (λ p. p) o ≡ o
    option_map-id None = refl
    option_map-id (Some p) = refl

owed-number : (d : ℕ) (a : Announcement) (p : Peer) → (also_owed d a p).number ≡ p.number
owed-number d a p = cond_both (p.number == d) p (record p { announcements = p.announcements ++ a ∷ [] }) (λ q. q.number ≡ p.number) (λ e. refl) (λ e. refl)

pub first-number : (p : Peer) → (first_put p).number ≡ p.number
first-number p = cond_both (length p.announcements == 0) (record p { free = p.free - 1; replies = drop 1 p.replies }) (record p { free = p.free - 1; announcements = drop 1 p.announcements }) (λ q. q.number ≡ p.number) (λ e. refl) (λ e. refl)

found_mapped : (f : Peer → Peer) → ((p : Peer) → (f p).number ≡ p.number) → (n : ℕ) (ps : List Peer) → find (is_numbered n) (map f ps) ≡ option_map f (find (is_numbered n) ps)
found_mapped f number n ps = find-mapped f (is_numbered n) (is_numbered n) (λ p. ap (λ k. k == n) (number p)) ps

pub peer-changed : (s : DomainState) (c : Change) (n : ℕ) → peer_at (changed s c) n ≡ option_map (peer_after s.number c n) (peer_at s n)
peer-changed s (end_announced a) n = found_mapped (also_owed s.number a) (owed-number s.number a) n s.peers
peer-changed s (reply_owed m r) n = found_first (λ p. record p { replies = p.replies ++ r ∷ [] }) (λ p. refl) m n s.peers
peer-changed s (owed_put m) n = found_first first_put first-number m n s.peers
peer-changed s (buffers_back m count) n = found_first (λ p. record p { free = p.free + count }) (λ p. refl) m n s.peers
peer-changed s (frames_shown m count) n = found_first (λ p. record p { shown = count }) (λ p. refl) m n s.peers
peer-changed s (frame_taken m part names) n = found_first (λ p. record p { shown = p.shown - 1; part = part }) (λ p. refl) m n s.peers
peer-changed s (names_known m names) n = found_first (λ p. record p { known = names }) (λ p. refl) m n s.peers
peer-changed s (buffers_used m count) n = found_first (λ p. record p { free = p.free - count }) (λ p. refl) m n s.peers
peer-changed s other n = sym (option_map-same (peer_at s n))
  where
    option_map-same : (o : Option Peer) → option_map (λ p. p) o ≡ o
    option_map-same None = refl
    option_map-same (Some p) = refl

-- ---- what is read of the peer of a number, after changes

abbrev pub read_of : {X : Type 0} → (Peer → X) → DomainState → ℕ → Option X
read_of g s n = option_map g (peer_at s n)

-- a change that keeps what is read
abbrev pub Keeps : {X : Type 0} → (Peer → X) → ℕ → ℕ → Change → Type 0
Keeps g d n c = (p : Peer) → g (peer_after d c n p) ≡ g p

pub read-changed : {X : Type 0} (g : Peer → X) (s : DomainState) (c : Change) (n : ℕ) → Keeps g s.number n c → read_of g (changed s c) n ≡ read_of g s n
read-changed g s c n keeps = ap (option_map g) (peer-changed s c n) ∙ go (peer_at s n)
  where
    go : (o : Option Peer) → option_map g (option_map (peer_after s.number c n) o) ≡ option_map g o
    go None = refl
    go (Some p) = ap Some (keeps p)

pub read-all : {X : Type 0} (g : Peer → X) (s : DomainState) (cs : List Change) (n : ℕ) → AllByRecursion (Keeps g s.number n) cs → read_of g (changed_all s cs) n ≡ read_of g s n
read-all g s [] n keep = refl
read-all g s (c ∷ cs) n keep = read-all g (changed s c) cs n keep.1 ∙ read-changed g s c n keep.0

-- a change at the peer of one number keeps what it keeps of each
pub cond-keeps : {X : Type 0} (g : Peer → X) (b : Bool) (p q : Peer) → g q ≡ g p → g (cond b q p) ≡ g p
cond-keeps g true p q same = same
cond-keeps g false p q same = refl

-- every change keeps the size
pub size-keeps : (d n : ℕ) (c : Change) → Keeps (λ p. p.size) d n c
size-keeps d n (end_announced a) p = cond_both (p.number == d) p (record p { announcements = p.announcements ++ a ∷ [] }) (λ q. q.size ≡ p.size) (λ e. refl) (λ e. refl)
size-keeps d n (reply_owed m r) p = cond-keeps (λ q. q.size) (m == n) p (record p { replies = p.replies ++ r ∷ [] }) refl
size-keeps d n (owed_put m) p = cond-keeps (λ q. q.size) (m == n) p (first_put p) (cond_both (length p.announcements == 0) (record p { free = p.free - 1; replies = drop 1 p.replies }) (record p { free = p.free - 1; announcements = drop 1 p.announcements }) (λ q. q.size ≡ p.size) (λ e. refl) (λ e. refl))
size-keeps d n (buffers_back m count) p = cond-keeps (λ q. q.size) (m == n) p (record p { free = p.free + count }) refl
size-keeps d n (frames_shown m count) p = cond-keeps (λ q. q.size) (m == n) p (record p { shown = count }) refl
size-keeps d n (frame_taken m part names) p = cond-keeps (λ q. q.size) (m == n) p (record p { shown = p.shown - 1; part = part }) refl
size-keeps d n (names_known m names) p = cond-keeps (λ q. q.size) (m == n) p (record p { known = names }) refl
size-keeps d n (buffers_used m count) p = cond-keeps (λ q. q.size) (m == n) p (record p { free = p.free - count }) refl
size-keeps d n other p = refl

pub size-all : (s : DomainState) (cs : List Change) (n : ℕ) → read_of (λ p. p.size) (changed_all s cs) n ≡ read_of (λ p. p.size) s n
size-all s cs n = read-all (λ p. p.size) s cs n (each cs)
  where
    each : (ks : List Change) → AllByRecursion (Keeps (λ p. p.size) s.number n) ks
    each [] = tt
    each (k ∷ ks) = (size-keeps s.number n k, each ks)

pub owed-free : (d : ℕ) (a : Announcement) (p : Peer) → (also_owed d a p).free ≡ p.free
owed-free d a p = cond_both (p.number == d) p (record p { announcements = p.announcements ++ a ∷ [] }) (λ q. q.free ≡ p.free) (λ e. refl) (λ e. refl)

pub owed-shown : (d : ℕ) (a : Announcement) (p : Peer) → (also_owed d a p).shown ≡ p.shown
owed-shown d a p = cond_both (p.number == d) p (record p { announcements = p.announcements ++ a ∷ [] }) (λ q. q.shown ≡ p.shown) (λ e. refl) (λ e. refl)

pub first-free : (p : Peer) → (first_put p).free ≡ p.free - 1
first-free p = cond_both (length p.announcements == 0) (record p { free = p.free - 1; replies = drop 1 p.replies }) (record p { free = p.free - 1; announcements = drop 1 p.announcements }) (λ q. q.free ≡ p.free - 1) (λ e. refl) (λ e. refl)

-- ---- numbers read

abbrev pub free_at : DomainState → ℕ → ℕ
free_at s n = unwrap_or (read_of (λ p. p.free) s n) 0

pub free-at : (s : DomainState) (n : ℕ) → free_to s n ≡ free_at s n
free-at s n = ap (λ (o : Option Peer). unwrap_or (option_map (λ p. p.free) o) 0) (peer_found s n)
