-- The messages of a client by its place: they are as they must be, and what it got is what they come to.
use Rattle.std.proofs.Common.{◌≡◌, ℕ, ◌+◌, ◌-◌, ◌<◌, ◌≤◌, Bool, true, List, [], ◌∷◌, ◌++◌, length, drop, replicate, refl, sym, ap, ◌∙◌, arith, append_assoc, append-nil}
use Rattle.std.proofs.lemmas.List.{length-replicate}
use Rattle.call_logs.specs.declared.got.Got.{Got}
use Rattle.call_logs.specs.CallBytes.{got_in, is_reply, are_replies}
use Rattle.call_logs.specs.Roles.{are_as_said, got_from}
use Rattle.call_actor.specs.declared.place.ClientPlace.{ClientPlace}
use Rattle.call_actor.specs.declared.place.ClientPlace.TheVariants.{New, Created, LookedUp, Waited, Sent, Received, Left, Ended}
use Rattle.call_actor.specs.ClientSteps.{ClientRole}
use Rattle.call_actor.specs.ClientStands.{Settles, HasMessages, IsWithin, Asks}
use Rattle.call_actor.proofs.Places.{drop_there, get_within}
use Rattle.call_actor.proofs.RepliesTold.{all_replies, said_none, said_short, said_whole, got_none, got_short, got_whole}

module _ (c : ClientRole) where
  abbrev pub said : List (List ℕ) → Bool
  said messages = are_as_said c.repeat 1 c.calls messages

  abbrev pub all_got : List (List ℕ) → List Got
  all_got messages = got_from c.repeat 1 c.calls messages

  pub settled_none : Settles c 0 [] []
  settled_none = record { said = λ later. refl; got = λ later. refl }

  -- the replies to one call more
  pub settles_more : (n : ℕ) (gots : List Got) (front : List (List ℕ)) (first : List ℕ) → Settles c n gots front → n < length c.calls → 1 ≤ c.repeat → is_reply (n + 1) first ≡ true → Settles c (n + 1) (gots ++ got_in first ∷ []) (front ++ replicate c.repeat first)
  settles_more n gots front first settled less some reply =
      let k = get_within c.calls n less in
      let there = drop_there c.calls n k.0 k.1 in
      record {
        said = λ later.
            ap said (append_assoc front (replicate c.repeat first) later)
            ∙ settled.said (replicate c.repeat first ++ later)
            ∙ ap (λ ks. are_as_said c.repeat (n + 1) ks (replicate c.repeat first ++ later)) there
            ∙ said_whole c.repeat (n + 1) k.0 (drop (n + 1) c.calls) first later reply;
        got = λ later.
            ap all_got (append_assoc front (replicate c.repeat first) later)
            ∙ settled.got (replicate c.repeat first ++ later)
            ∙ ap (λ ks. gots ++ got_from c.repeat (n + 1) ks (replicate c.repeat first ++ later)) there
            ∙ ap (λ gs. gots ++ gs) (got_whole c.repeat (n + 1) k.0 (drop (n + 1) c.calls) first later some reply)
            ∙ sym (append_assoc gots (got_in first ∷ []) (got_from c.repeat (n + 1 + 1) (drop (n + 1) c.calls) later));
      }

  settled_said : (n : ℕ) (gots : List Got) (messages : List (List ℕ)) → Settles c n gots messages → said messages ≡ true
  settled_said n gots messages settled = ap said (sym (append-nil messages)) ∙ settled.said [] ∙ said_none c.repeat (n + 1) (drop n c.calls)

  settled_got : (n : ℕ) (gots : List Got) (messages : List (List ℕ)) → Settles c n gots messages → all_got messages ≡ gots
  settled_got n gots messages settled = ap all_got (sym (append-nil messages)) ∙ settled.got [] ∙ ap (λ gs. gots ++ gs) (got_none c.repeat (n + 1) (drop n c.calls)) ∙ append-nil gots

  -- some replies to the call at a place, fewer than all
  module _ (n : ℕ) (gots : List Got) (front part : List (List ℕ)) (settled : Settles c n gots front) (less : n < length c.calls) where
    pub part_said : length part ≤ c.repeat → said (front ++ part) ≡ are_replies (n + 1) part
    part_said short =
        let k = get_within c.calls n less in
        settled.said part ∙ ap (λ ks. are_as_said c.repeat (n + 1) ks part) (drop_there c.calls n k.0 k.1) ∙ said_short c.repeat (n + 1) k.0 (drop (n + 1) c.calls) part short

    pub part_got : ((k : ℕ × ℕ) (ks : List (ℕ × ℕ)) → got_from c.repeat (n + 1) (k ∷ ks) part ≡ []) → all_got (front ++ part) ≡ gots
    part_got none =
        let k = get_within c.calls n less in
        settled.got part ∙ ap (λ ks. gots ++ got_from c.repeat (n + 1) ks part) (drop_there c.calls n k.0 k.1) ∙ ap (λ gs. gots ++ gs) (none k.0 (drop (n + 1) c.calls)) ∙ append-nil gots

  pub as_said : (place : ClientPlace) (first : List ℕ) (gots : List Got) (messages : List (List ℕ)) → Asks place → IsWithin c place → HasMessages c place first gots messages → said messages ≡ true
  as_said Created first gots messages asks within has = ap said has.0 ∙ said_none c.repeat 1 c.calls
  as_said LookedUp first gots messages asks within has = ap said has.0 ∙ said_none c.repeat 1 c.calls
  as_said Waited first gots messages asks within has = ap said has.0 ∙ said_none c.repeat 1 c.calls
  as_said (Sent n times) first gots messages asks within has = settled_said n gots messages has
  as_said (Received n times) first gots messages asks within has =
      ap said has.parts
      ∙ part_said n gots has.front (replicate (times - 1) first) has.settled within.0 (omega (arith, length-replicate (times - 1) first, within.2))
      ∙ all_replies (n + 1) first (times - 1) (λ some. has.reply (omega (arith, some)))
  as_said Left first gots messages asks within has = settled_said (length c.calls) gots messages has
  as_said New first gots messages asks within has = absurd asks
  as_said Ended first gots messages asks within has = absurd asks

  pub gots_are : (place : ClientPlace) (first : List ℕ) (gots : List Got) (messages : List (List ℕ)) → IsWithin c place → HasMessages c place first gots messages → gots ≡ all_got messages
  gots_are New first gots messages within has = has.1 ∙ sym (ap all_got has.0 ∙ got_none c.repeat 1 c.calls)
  gots_are Created first gots messages within has = has.1 ∙ sym (ap all_got has.0 ∙ got_none c.repeat 1 c.calls)
  gots_are LookedUp first gots messages within has = has.1 ∙ sym (ap all_got has.0 ∙ got_none c.repeat 1 c.calls)
  gots_are Waited first gots messages within has = has.1 ∙ sym (ap all_got has.0 ∙ got_none c.repeat 1 c.calls)
  gots_are (Sent n times) first gots messages within has = sym (settled_got n gots messages has)
  gots_are (Received n times) first gots messages within has =
      sym (ap all_got has.parts ∙ part_got n gots has.front (replicate (times - 1) first) has.settled within.0 (λ k ks. got_short c.repeat (n + 1) k ks (replicate (times - 1) first) (omega (arith, length-replicate (times - 1) first, within.1, within.2))))
  gots_are Left first gots messages within has = sym (settled_got (length c.calls) gots messages has)
  gots_are Ended first gots messages within has = has
