-- The row of a message, and of a letter at an end of a channel.
use Rattle.std.proofs.Common.{◌≡◌, ℕ, Bor, Bool, true, false, cond, List, [], ◌∷◌, ◌++◌, Option, Some, None, refl, sym, ap, ◌∙◌}
use Rattle.std.specs.List.{flat_map}
use Rattle.mc_base.specs.Letter.{PlainLetter, msg, piece_in, plain_letter, saying_by, saying_of}
use Rattle.mc_base.specs.Reading.{says_so}
use Rattle.mc_base.specs.declared.channel.Kind.{Kind}
use Rattle.mc_base.specs.declared.letter.Letter.{Letter}
use Rattle.mc_base.specs.declared.letter.Letter.TheVariants as letter
use Rattle.mc_base.specs.declared.fate.Fate.{Fate}
use Rattle.mc_base.specs.declared.fate.Fate.TheVariants as fate
use Rattle.board_model.specs.Change.{item_handed, item_lost, item_queued}
use Rattle.board_model.specs.ChannelEnds.{EndRow, end_row_of, end_rows, first_end_row, left_row}
use Rattle.board_model.specs.State.{ChannelEnd, DomainState, Endpoint, Item, endpoint_of, one_waits}
use Rattle.board_model.specs.TakenFrames.{Row, channel_rows, first_row, last_row, letter_rows, message_rows, row, row_of, rows_by}
use Rattle.report_replay.specs.Ends.{acted, came_in, end_at, end_to, item_by, kept, left_by, letter_at, message_at, message_to, word_at}
use Rattle.report_replay.specs.Verdicts.{Keeps}
use Rattle.report_replay.specs.declared.way.Way.{Way}
use Rattle.report_replay.specs.declared.ends.Heard.{Heard}

-- ---- the first row of a domain is that of the end's first row

module _ (s : DomainState) (dst : ℕ) (x : Endpoint) (i : Item) (l : PlainLetter) where
  abbrev pub row_at : Fate → Option ChannelEnd → Row
  row_at fate.Queued left = kept s dst x.local i
  row_at fate.Acted left = acted dst left l
  row_at fate.Closed left = row true fate.Closed (item_lost dst i ∷ [])
  row_at word left = row true word []

  abbrev rows_of : EndRow → List Row
  rows_of r = rows_by s dst x i l r.applies r.leaves r.word

  before : (r : Row) (rest : List Row) → first_row (r ∷ (rest ++ last_row fate.State [])) ≡ cond r.applies r (first_row (rest ++ last_row fate.State []))
  before r [] = refl
  before r (q ∷ rest) = refl

  applies : (word : Fate) (left : Option ChannelEnd) (rest : List Row) → first_row ((rows_by s dst x i l true left word ++ rest) ++ last_row fate.State []) ≡ row_at word left
  applies fate.Queued left rest = ap (λ z. cond (one_waits s x.local) (row (one_waits s x.local) fate.Handed (item_handed dst i ∷ [])) z) (before (row true fate.Queued (item_queued dst i ∷ [])) rest)
  applies fate.Acted left rest = before _ rest
  applies fate.Closed left rest = before _ rest
  applies word left rest = before (row true word []) rest

  passes : (word : Fate) (left : Option ChannelEnd) (rest : List Row) → first_row ((rows_by s dst x i l false left word ++ rest) ++ last_row fate.State []) ≡ first_row (rest ++ last_row fate.State [])
  passes fate.Queued left rest = before _ rest
  passes fate.Acted left rest = before _ rest
  passes fate.Closed left rest = before _ rest
  passes word left rest = before (row false word []) rest

  -- what the rows so far and the rest make
  abbrev Agrees : Row → EndRow → Type 0
  Agrees r e = r ≡ row_at e.word e.leaves

  first-at : (c : ChannelEnd) (rs : List EndRow) → Agrees (first_row (flat_map rows_of rs ++ last_row fate.State [])) (first_end_row rs (left_row (Some c)))
  first-at c [] = refl
  first-at c (r ∷ rs) = go r.applies (first-at c rs)
    where
      go : (b : Bool) → Agrees (first_row (flat_map rows_of rs ++ last_row fate.State [])) (first_end_row rs (left_row (Some c)))
          → Agrees (first_row ((rows_by s dst x i l b r.leaves r.word ++ flat_map rows_of rs) ++ last_row fate.State [])) (cond b r (first_end_row rs (left_row (Some c))))
      go true same = applies r.word r.leaves (flat_map rows_of rs)
      go false same = passes r.word r.leaves (flat_map rows_of rs) ∙ same

-- ---- at the endpoint that a letter goes to, with the item that it brings

pub keeps : (at : ℕ) (i : Item) (b : Bool) → Keeps at b i (cond b (row b fate.Handed (item_handed at i ∷ [])) (row true fate.Queued (item_queued at i ∷ [])))
keeps at i true = record { word = refl; changes = refl }
keeps at i false = record { word = refl; changes = refl }

pub message-kept : (s : DomainState) (w : Way) (i : Item) (x : Endpoint) → Some x ≡ endpoint_of s w.destination → None ≡ x.channel → kept s w.destination x.local i ≡ first_row (message_at s w i)
message-kept s w i x there none = ap (λ o. first_row (message_rows s w.destination x o i)) none ∙ ap (λ o. first_row (message_to s w o i)) there

module _ (s : DomainState) (w : Way) (l : PlainLetter) (i : Item) (x : Endpoint) (there : Some x ≡ endpoint_of s w.destination) (c : ChannelEnd) (channel : Some c ≡ x.channel) (h : Heard) (word : word_at h ≡ (end_row_of w.peer (Some c) l).word) (left : left_by c h ≡ (end_row_of w.peer (Some c) l).leaves) where
  abbrev rows : Option Endpoint → Row
  rows o = first_row (end_to s w o i l)

  pub heard-row : row_at s w.destination x i l (word_at h) (left_by c h) ≡ rows (endpoint_of s w.destination)
  heard-row =
      ap (λ f. row_at s w.destination x i l f (left_by c h)) word
      ∙ ap (λ o. row_at s w.destination x i l (end_row_of w.peer (Some c) l).word o) left
      ∙ sym (first-at s w.destination x i l c (end_rows w.peer c l))
      ∙ ap (λ o. first_row (channel_rows s w.peer w.destination x o i l)) channel
      ∙ ap rows there

-- a letter that is no Connect, no message and no part is one to an end
module _ (s : DomainState) (w : Way) where
  abbrev pub Others : Letter → Type 0
  Others l = ((channel : ℕ) (kind : Kind) → l ≡ letter.Connect channel kind → ⊥) × ((priority : ℕ) (bytes : Bor (List ℕ)) → l ≡ letter.Msg priority bytes → ⊥)
      × ((priority total offset : ℕ) (bytes : Bor (List ℕ)) → l ≡ letter.MsgPart priority total offset bytes → ⊥) × ((channel total offset : ℕ) (bytes : Bor (List ℕ)) → l ≡ letter.PacketPart channel total offset bytes → ⊥)

  pub is-whole : (l : Letter) → Others l → piece_in l ≡ None
  is-whole (letter.MsgPart priority total offset bytes) others = absurd (others.2 priority total offset bytes refl)
  is-whole (letter.PacketPart channel total offset bytes) others = absurd (others.3 channel total offset bytes refl)
  is-whole other others = refl

  pub to-an-end : (names : List ℕ) (l : Letter) → Others l → end_at s w (item_by w names (plain_letter l)) (plain_letter l) ≡ letter_at s w names (plain_letter l)
  to-an-end names l others = go l (endpoint_of s w.destination) others
    where
      go : (l : Letter) (o : Option Endpoint) → Others l → end_to s w o (item_by w names (plain_letter l)) (plain_letter l) ≡ letter_rows s w.peer (came_in names) w.source w.destination o (plain_letter l)
      go (letter.Connect channel kind) o others = absurd (others.0 channel kind refl)
      go (letter.Msg priority bytes) o others = absurd (others.1 priority bytes refl)
      go (letter.MsgPart priority total offset bytes) o others = absurd (others.2 priority total offset bytes refl)
      go other None others = refl
      go other (Some e) others = refl

  -- what it says, whole
  pub whole-row : (names : List ℕ) (l : Letter) → piece_in l ≡ None → row_of s w.peer (came_in names) (says_so w.source w.destination (saying_of l)) ≡ first_row (letter_at s w names (plain_letter l))
  whole-row names l whole = ap (λ o. row_of s w.peer (came_in names) (says_so w.source w.destination (saying_by o (plain_letter l)))) whole

-- a message is one to the endpoint
pub to-a-message : (s : DomainState) (w : Way) (names : List ℕ) (priority : ℕ) (bytes : List ℕ) → message_at s w (item_by w names (msg priority bytes)) ≡ letter_at s w names (msg priority bytes)
to-a-message s w names priority bytes = go (endpoint_of s w.destination)
  where
    go : (o : Option Endpoint) → message_to s w o (item_by w names (msg priority bytes)) ≡ letter_rows s w.peer (came_in names) w.source w.destination o (msg priority bytes)
    go None = refl
    go (Some e) = refl
