-- Items of a channel: what an item says of its channel agrees with what the endpoint hears at which it comes or is queued.
use Rattle.std.proofs.Common.{◌≡◌, ℕ, Bool, true, false, cond, List, [], ◌∷◌, map, filter, Option, None, Some, refl, sym, ap, ap₂, ◌∙◌}
use Rattle.std.specs.Prelude.{◌==◌, ◌&&◌, ◌||◌, is_none}
use Rattle.std.specs.List.{AllByRecursion}
use Rattle.std.proofs.lemmas.Bool.{and_parts, eqb-true}
use Rattle.mc_base.specs.declared.channel.Side.{Side}
use Rattle.mc_base.specs.declared.channel.Side.TheVariants.{Sender, Receiver}
use Rattle.board_model.specs.ChannelEnds.{same_side, hears_from, is_closed}
use Rattle.board_model.specs.Channels.{is_numbered, is_of_channel, contents_of}
use Rattle.board_model.specs.State.{Item, ChannelEnd}
use Rattle.board_model.proofs.ChannelWords.{end_is, contents_if}
use Rattle.board_model.proofs.OrderSound.{IsMessage, CameOn, Bound}

and_turned : (a b : Bool) → (a && b) ≡ (b && a)
and_turned true true = refl
and_turned true false = refl
and_turned false true = refl
and_turned false false = refl

and_none : (a : Bool) → (a && false) ≡ false
and_none true = refl
and_none false = refl

pub contents_none : (b : Bool) → contents_if b [] ≡ []
contents_none true = refl
contents_none false = refl

module _ (o n : ℕ) where
  -- items that are all of the channel, or none
  pub all_contents : (b : Bool) (q : List Item) → AllByRecursion (λ i. is_of_channel o n i ≡ b) q → contents_of o n q ≡ contents_if b q
  all_contents true [] all = refl
  all_contents true (i ∷ q) all = ap (λ (k : Bool). map (λ (x : Item). x.content) (cond k (i ∷ filter (is_of_channel o n) q) (filter (is_of_channel o n) q))) all.0 ∙ ap (λ cs. i.content ∷ cs) (all_contents true q all.1)
  all_contents false [] all = refl
  all_contents false (i ∷ q) all = ap (λ (k : Bool). map (λ (x : Item). x.content) (cond k (i ∷ filter (is_of_channel o n) q) (filter (is_of_channel o n) q))) all.0 ∙ all_contents false q all.1

  pub one_contents : (i : Item) → contents_of o n (i ∷ []) ≡ contents_if (is_of_channel o n i) (i ∷ [])
  one_contents i = all_contents (is_of_channel o n i) (i ∷ []) (refl, tt)

  -- a message is of none
  pub message_none : (i : Item) → IsMessage i → is_of_channel o n i ≡ false
  message_none i none = go i.channel none
    where
      go : (c : Option ℕ) → is_none c ≡ true → (i.peer == o && is_numbered n c) ≡ false
      go None h = and_none (i.peer == o)
      go (Some m) h = absurd cc

  pub messages_none : (q : List Item) → AllByRecursion IsMessage q → contents_of o n q ≡ []
  messages_none q all = all_contents false q (each q all)
    where
      each : (q : List Item) → AllByRecursion IsMessage q → AllByRecursion (λ i. is_of_channel o n i ≡ false) q
      each [] all = tt
      each (i ∷ q) all = (message_none i all.0, each q all.1)

  -- what came on a receiver's end is of the channel that the end hears
  pub came_agrees : (c : ChannelEnd) (i : Item) → same_side c.side Receiver ≡ true → CameOn c i → is_of_channel o n i ≡ hears_from o n c
  came_agrees c i side came =
      let parts = and_parts (i.peer == c.owner) (is_numbered c.number i.channel) came in
      go i.channel (eqb-true i.peer c.owner parts.0) parts.1 ∙ ap (λ b. b && (c.number == n && c.owner == o)) (sym side)
    where
      go : (x : Option ℕ) → i.peer ≡ c.owner → is_numbered c.number x ≡ true → (i.peer == o && is_numbered n x) ≡ (c.number == n && c.owner == o)
      go None peer number = absurd cc
      go (Some m) peer number = ap₂ (λ p k. p == o && k == n) peer (eqb-true m c.number number) ∙ and_turned (c.owner == o) (c.number == n)

  -- the contents of a queue
  pub bound_contents : (q : List Item) (x : Option ChannelEnd) → Bound q x → contents_of o n q ≡ contents_if (end_is (hears_from o n) x) q
  bound_contents q None bound = messages_none q bound
  bound_contents q (Some c) bound = go c.side refl
    where
      each : same_side c.side Receiver ≡ true → (q : List Item) → AllByRecursion (CameOn c) q → AllByRecursion (λ i. is_of_channel o n i ≡ hears_from o n c) q
      each side [] all = tt
      each side (i ∷ q) all = (came_agrees c i side all.0, each side q all.1)

      go : (side : Side) → c.side ≡ side → contents_of o n q ≡ contents_if (hears_from o n c) q
      go Receiver is = all_contents (hears_from o n c) q (each (ap (λ d. same_side d Receiver) is) q bound.1)
      go Sender is =
          let none : q ≡ [] = bound.0 (ap (λ d. same_side d Sender || is_closed c.stage) is) in
          ap (contents_of o n) none ∙ (sym (contents_none (hears_from o n c)) ∙ ap (contents_if (hears_from o n c)) (sym none))
