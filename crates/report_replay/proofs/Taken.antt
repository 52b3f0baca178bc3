-- A frame that is taken leaves all but the part of its peer as it was, so that its row is that of the state before.
use Rattle.std.proofs.Common.{◌≡◌, ℕ, Bool, true, false, cond, List, [], ◌∷◌, ◌++◌, Option, None, Some, append-nil, append_assoc, refl, sym, ap, ◌∙◌, Result, Ok, Err, OnOk}
use Rattle.std.specs.Prelude.{◌==◌, find, is_some, nat_le}
use Rattle.mc_base.specs.Letter.{PlainLetter, msg, connect, accept, reject, recv_open, send_open, packet, scalar, send_close, recv_close}
use Rattle.mc_base.specs.Limits.{reply_limit}
use Rattle.mc_base.specs.FullName.{endpoint_named}
use Rattle.mc_base.specs.Reading.{Reading, is_faulty, announces, says, brings}
use Rattle.mc_base.specs.declared.channel.Kind.{Kind}
use Rattle.mc_base.specs.declared.channel.Reason.TheVariants as reason
use Rattle.mc_base.specs.declared.fate.Fate.TheVariants as fate
use Rattle.board_model.specs.Change.{at_peer, changed, frame_taken}
use Rattle.board_model.specs.Parts.{Came}
use Rattle.board_model.specs.State.{DomainState, Endpoint, Part, Peer, endpoint_of, is_numbered, peer_at}
use Rattle.board_model.specs.TakenFrames.{accepting, connect_rows, first_row, is_busy, last_row, letter_rows, name_rows, names_of, rejecting, replies_to, row, row_of}
use Rattle.report_replay.specs.Dealt.{AddsFor, shown_less}
use Rattle.report_replay.specs.Naming.{names_for}

-- ---- peers

-- of the peer that is looked for, what does not hang on its part
module _ {A : Type 0} (f : Option Peer → A) (n : ℕ) (part : Option Part) (keeps : (p : Peer) → f (Some (shown_less part p)) ≡ f (Some p)) where
  -- the first is the one that is looked for, or not
  sought : (b : Bool) (p : Peer) (o : Option Peer) → f (cond b (Some (shown_less part p)) o) ≡ f (cond b (Some p) o)
  sought true p o = keeps p
  sought false p o = refl

  passed : (b : Bool) (p : Peer) (o r : Option Peer) → f o ≡ f r → f (cond b (Some p) o) ≡ f (cond b (Some p) r)
  passed true p o r same = refl
  passed false p o r same = same

  pub peer-same : (m : ℕ) (ps : List Peer) → f (find (is_numbered m) (at_peer n (shown_less part) ps)) ≡ f (find (is_numbered m) ps)
  peer-same m [] = refl
  peer-same m (p ∷ ps) = go (is_numbered n p) (peer-same m ps)
    where
      go : (taken : Bool) → f (find (is_numbered m) (at_peer n (shown_less part) ps)) ≡ f (find (is_numbered m) ps)
          → f (find (is_numbered m) (cond taken (shown_less part p ∷ ps) (p ∷ at_peer n (shown_less part) ps))) ≡ f (find (is_numbered m) (p ∷ ps))
      go true same = sought (is_numbered m p) p (find (is_numbered m) ps)
      go false same = passed (is_numbered m p) p (find (is_numbered m) (at_peer n (shown_less part) ps)) (find (is_numbered m) ps) same

-- ---- rows

module _ (s : DomainState) (n : ℕ) (part : Option Part) (names : List ℕ) where
  abbrev t : DomainState
  t = changed s (frame_taken n part names)

  names_same : (m : ℕ) → names_of (peer_at t m) ≡ names_of (peer_at s m)
  names_same m = peer-same names_of n part (λ p. refl) m s.peers

  replies_same : (m : ℕ) → replies_to (peer_at t m) ≡ replies_to (peer_at s m)
  replies_same m = peer-same replies_to n part (λ p. refl) m s.peers

  module _ (peer : ℕ) (c : Came) (a b : ℕ) where
    connects : (o : Option Endpoint) (number : ℕ) (kind : Kind) → first_row (connect_rows t peer a b o number kind) ≡ first_row (connect_rows s peer a b o number kind)
    connects None number kind =
        ap (λ x. first_row (row (nat_le reply_limit x) fate.RepliesFull [] ∷ last_row fate.Owed (rejecting peer a b number reason.NoEndpoint))) (replies_same peer)
    connects (Some e) number kind =
        ap (λ x. first_row (row (nat_le reply_limit x) fate.RepliesFull []
        ∷ row (is_some e.channel) fate.Owed (rejecting peer a b number reason.Connected)
        ∷ row (is_busy s e) fate.Owed (rejecting peer a b number reason.Busy)
        ∷ last_row fate.Owed (accepting peer a b number kind))) (replies_same peer)

    letters : (o : Option Endpoint) (l : PlainLetter) → first_row (letter_rows t peer c a b o l) ≡ first_row (letter_rows s peer c a b o l)
    letters o (connect number kind) = connects o number kind
    letters None (msg priority bytes) = refl
    letters None (accept number) = refl
    letters None (reject number why) = refl
    letters None (recv_open number) = refl
    letters None (send_open number) = refl
    letters None (packet number bytes) = refl
    letters None (scalar number bits value) = refl
    letters None (send_close number) = refl
    letters None (recv_close number) = refl
    letters (Some e) (msg priority bytes) = refl
    letters (Some e) (accept number) = refl
    letters (Some e) (reject number why) = refl
    letters (Some e) (recv_open number) = refl
    letters (Some e) (send_open number) = refl
    letters (Some e) (packet number bytes) = refl
    letters (Some e) (scalar number bits value) = refl
    letters (Some e) (send_close number) = refl
    letters (Some e) (recv_close number) = refl

  pub row-same : (peer : ℕ) (c : Came) (r : Reading) → row_of t peer c r ≡ row_of s peer c r
  row-same peer c (is_faulty f) = refl
  row-same peer c (announces text address there) = ap (λ known. first_row (name_rows peer known (endpoint_named text) address there)) (names_same peer)
  row-same peer c (says a b l) = letters peer c a b (endpoint_of s b) l
  row-same peer c (brings a b q) = refl

-- ---- names that are added

-- these for a peer, and then those
pub adds-then : (peer : ℕ) (xs ys : List ℕ) (old mid new : List (List ℕ)) → AddsFor peer xs old mid → AddsFor peer ys mid new → AddsFor peer (xs ++ ys) old new
adds-then peer xs ys old mid new one two = λ p small.
    two p small
    ∙ ap (λ ns. ns ++ cond (peer == p) ys []) (one p small)
    ∙ append_assoc (names_for p old) (cond (peer == p) xs []) (cond (peer == p) ys [])
    ∙ ap (λ ns. names_for p old ++ ns) (both (peer == p))
  where
    both : (b : Bool) → cond b xs [] ++ cond b ys [] ≡ cond b (xs ++ ys) []
    both true = refl
    both false = refl

pub adds-none : (peer : ℕ) (old : List (List ℕ)) → AddsFor peer [] old old
adds-none peer old = λ p small. sym (append-nil (names_for p old)) ∙ ap (λ ns. names_for p old ++ ns) (sym (none (peer == p)))
  where
    none : (b : Bool) → cond {A = List ℕ} b [] [] ≡ []
    none true = refl
    none false = refl

-- ---- what holds where a call succeeds

pub on-always : {A E P : Type 0} (r : Result A E) → P → OnOk r P
on-always (Ok a) p = p
on-always (Err e) p = tt

pub on-map : {A E P Q : Type 0} (r : Result A E) → (P → Q) → OnOk r P → OnOk r Q
on-map (Ok a) f p = f p
on-map (Err e) f p = tt
