-- New names of frames, each by a function of the peer and of the old name; and the frames by their new names of items, and of what a frame
-- gives back.
use Rattle.std.proofs.Common.{eqb-true, ◌≡◌, ℕ, Bool, true, false, cond, List, [], ◌∷◌, ◌++◌, map, Option, Some, refl, sym, ap, ap₂, ◌∙◌}
use Rattle.std.specs.Prelude.{filter, ◌==◌}
use Rattle.std.specs.List.{flat_map}
use Rattle.std.proofs.lemmas.List.{map-append}
use Rattle.mc_base.specs.declared.fate.Fate.{Fate}
use Rattle.board_model.specs.Dealing.{keeps_buffer}
use Rattle.board_model.specs.Parts.{Came, coming_from, came_from, named_so, names_ended}
use Rattle.board_model.specs.Renamed.{renamed, renamed_item}
use Rattle.board_model.specs.Returns.{given_at_once, given_by_frame}
use Rattle.board_model.specs.State.{DomainState, Item, is_from, frames_from, held_of}
use Rattle.board_model.proofs.RenamedDeeds.{came-renamed, held_renamed}

module _ (g : ℕ → ℕ → ℕ) where
  abbrev pub new_name : ℕ → Option ℕ → Option ℕ
  new_name peer name = Some (g peer (named_so name))

  pub same-names : (peer : ℕ) (name : Option ℕ) → g peer (named_so name) ≡ named_so (new_name peer name)
  same-names peer name = refl

  pub frames-renamed : (peer : ℕ) (items : List Item) → frames_from peer (map (renamed_item g) items) ≡ map (g peer) (frames_from peer items)
  frames-renamed peer [] = refl
  frames-renamed peer (i ∷ items) = go (i.peer == peer) refl (frames-renamed peer items)
    where
      go : (b : Bool) → (i.peer == peer) ≡ b → frames_from peer (map (renamed_item g) items) ≡ map (g peer) (frames_from peer items) → flat_map (λ (x : Item). x.frames) (cond b (renamed_item g i ∷ filter (is_from peer) (map (renamed_item g) items)) (filter (is_from peer) (map (renamed_item g) items)))
          ≡ map (g peer) (flat_map (λ (x : Item). x.frames) (cond b (i ∷ filter (is_from peer) items) (filter (is_from peer) items)))
      go true same rest =
          ap₂ (λ (xs ys : List ℕ). xs ++ ys) (ap (λ p. map (g p) i.frames) (eqb-true i.peer peer same)) rest
          ∙ sym (map-append (g peer) i.frames (frames_from peer items))
      go false same rest = rest

  -- ---- what a frame gives back

  ended_renamed : (t : DomainState) (peer : ℕ) (joins : Bool) → names_ended joins (held_of (renamed g t) peer) ≡ map (g peer) (names_ended joins (held_of t peer))
  ended_renamed t peer true = refl
  ended_renamed t peer false = held_renamed g new_name same-names t peer t.held

  once_renamed : (peer : ℕ) (word : Fate) (names : List ℕ) → given_at_once word (map (g peer) names) ≡ map (g peer) (given_at_once word names)
  once_renamed peer word names = go (keeps_buffer word)
    where
      go : (b : Bool) → cond b [] (map (g peer) names) ≡ map (g peer) (cond b [] names)
      go true = refl
      go false = refl

  pub given-renamed : (t : DomainState) (peer : ℕ) (name : Option ℕ) (frame : List ℕ) (word : Fate) → given_by_frame (renamed g t) peer (new_name peer name) frame word ≡ map (g peer) (given_by_frame t peer name frame word)
  given-renamed t peer name frame word =
      ap₂ (λ (xs ys : List ℕ). xs ++ ys)
      (ended_renamed t peer (coming_from t peer frame).joins)
      (ap (λ (c : Came). given_at_once word c.names) (came-renamed g new_name same-names t peer name frame) ∙ once_renamed peer word (came_from t peer name frame).names)
      ∙ sym (map-append (g peer) (names_ended (coming_from t peer frame).joins (held_of t peer)) (given_at_once word (came_from t peer name frame).names))
