-- A frame's row is that of the state in which the frame counts as taken.
use Rattle.board_model.specs.Parts.{Came}
use Rattle.std.proofs.Common.{◌≡◌, ℕ, ◌-◌, Bool, true, false, cond, List, [], ◌∷◌, Option, None, Some, refl, ap, ◌∙◌}
use Rattle.std.specs.Prelude.{find, ◌==◌}
use Rattle.mc_base.specs.FullName.{endpoint_named}
use Rattle.mc_base.specs.Letter.{PlainLetter, connect, msg}
use Rattle.mc_base.specs.Reading.{Reading, is_faulty, announces, says, brings}
use Rattle.mc_base.specs.declared.channel.Kind.{Kind}
use Rattle.board_model.specs.Change.{frame_taken, changed}
use Rattle.board_model.specs.Lists.{changed_first}
use Rattle.board_model.specs.State.{Item, ChannelEnd, Endpoint, Peer, DomainState, endpoint_of, is_numbered, peer_at, Part}
use Rattle.board_model.specs.TakenFrames.{first_row, names_of, name_rows, replies_to, connect_rows, message_rows, channel_rows, letter_rows, row_of}

-- what one peer's change leaves of each peer
pub peer_keeps : {X : Type 0} (h : Option Peer → X) (f : Peer → Peer) → ((x : Peer) → (f x).number ≡ x.number) → ((x : Peer) → h (Some (f x)) ≡ h (Some x)) → (p q : ℕ) (ps : List Peer) →
    h (find (is_numbered q) (changed_first (is_numbered p) f ps)) ≡ h (find (is_numbered q) ps)
peer_keeps h f same keep p q [] = refl
peer_keeps h f same keep p q (x ∷ xs) = go (x.number == p) (x.number == q) refl (peer_keeps h f same keep p q xs)
  where
    go : (b k : Bool) → (x.number == q) ≡ k → h (find (is_numbered q) (changed_first (is_numbered p) f xs)) ≡ h (find (is_numbered q) xs) → h (find (is_numbered q) (cond b (f x ∷ xs) (x ∷ changed_first (is_numbered p) f xs))) ≡ h (cond k (Some x) (find (is_numbered q) xs))
    go true true is more = ap (λ n. h (cond (n == q) (Some (f x)) (find (is_numbered q) xs))) (same x) ∙ (ap (λ b. h (cond b (Some (f x)) (find (is_numbered q) xs))) is ∙ keep x)
    go true false is more = ap (λ n. h (cond (n == q) (Some (f x)) (find (is_numbered q) xs))) (same x) ∙ ap (λ b. h (cond b (Some (f x)) (find (is_numbered q) xs))) is
    go false true is more = ap (λ b. h (cond b (Some x) (find (is_numbered q) (changed_first (is_numbered p) f xs)))) is
    go false false is more = ap (λ b. h (cond b (Some x) (find (is_numbered q) (changed_first (is_numbered p) f xs)))) is ∙ more

module _ (s : DomainState) (p : ℕ) (part : Option Part) (held : List ℕ) where
  abbrev pub taken : DomainState
  taken = changed s (frame_taken p part held)

  module _ (q : ℕ) where
    taken_keeps : {X : Type 0} (h : Option Peer → X) → ((x : Peer) → h (Some (record x { shown = x.shown - 1; part = part })) ≡ h (Some x)) → h (peer_at taken q) ≡ h (peer_at s q)
    taken_keeps h keep = peer_keeps h (λ x. record x { shown = x.shown - 1; part = part }) (λ x. refl) keep p q s.peers

    names_same : names_of (peer_at taken q) ≡ names_of (peer_at s q)
    names_same = taken_keeps names_of (λ x. refl)

    replies_same : replies_to (peer_at taken q) ≡ replies_to (peer_at s q)
    replies_same = taken_keeps replies_to (λ x. refl)

    module _ (name : Came) where
      connects_same : (source destination : ℕ) (o : Option Endpoint) (number : ℕ) (kind : Kind) → first_row (connect_rows taken q source destination o number kind) ≡ first_row (connect_rows s q source destination o number kind)
      connects_same source destination None number kind = rw replies_same refl
      connects_same source destination (Some e) number kind = rw replies_same refl

      messages_same : (destination : ℕ) (e : Endpoint) (c : Option ChannelEnd) (i : Item) → first_row (message_rows taken destination e c i) ≡ first_row (message_rows s destination e c i)
      messages_same destination e None i = refl
      messages_same destination e (Some c) i = refl

      channels_same : (destination : ℕ) (e : Endpoint) (c : Option ChannelEnd) (i : Item) (l : PlainLetter) → first_row (channel_rows taken q destination e c i l) ≡ first_row (channel_rows s q destination e c i l)
      channels_same destination e None i l = refl
      channels_same destination e (Some c) i l = refl

      letters_same : (source destination : ℕ) (o : Option Endpoint) (l : PlainLetter) → first_row (letter_rows taken q name source destination o l) ≡ first_row (letter_rows s q name source destination o l)
      letters_same source destination o (connect number kind) = connects_same source destination o number kind
      letters_same source destination None l = refl
      letters_same source destination (Some e) (msg priority content) = messages_same destination e e.channel _
      letters_same source destination (Some e) l = channels_same destination e e.channel _ l

      pub row_same : (r : Reading) → row_of taken q name r ≡ row_of s q name r
      row_same (is_faulty f) = refl
      row_same (announces text address there) = ap (λ known. first_row (name_rows q known (endpoint_named text) address there)) names_same
      row_same (brings source destination q) = refl
      row_same (says source destination l) = letters_same source destination (endpoint_of s destination) l
