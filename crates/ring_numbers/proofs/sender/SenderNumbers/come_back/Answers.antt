use Rattle.std.proofs.Common.{rules, ◌≡◌, ℕ, ◌+◌, true, false, sym, ap, ◌∙◌, drop, take, map, length, List, [], ◌∷◌, ◌++◌, nat_lt}
use Rattle.std.proofs.lemmas.List.{append_assoc, map-append}
use Rattle.ring_numbers.specs.SenderNumbers.{number_at}
use Rattle.ring_numbers.proofs.BuffersBack.{drop-next, fails-among, pass-next, take-next}
use Rattle.ring_numbers.proofs.sender.SenderNumbers.come_back.Goals as goal

pub returns-in_default-number_in-clause-put : goal.returns-in_default-number_in-clause-put
returns-in_default-number_in-clause-put c =
    let next : drop c.loop-buffer._buffer c.args.self.now.given ≡ c.in-Some.place ∷ c.pop_front.new.self.items = search rules in
    let beyond : nat_lt c.in-Some.place (length c.args.self.now.used) ≡ false = search rules in
    sym (fails-among (λ place. nat_lt place (length c.args.self.now.used)) c.args.self.now.given c.loop-buffer._buffer c.args.count c.in-Some.place c.pop_front.new.self.items next (search rules) beyond)

pub loop-buffer-preserved : goal.loop-buffer-preserved
loop-buffer-preserved c =
    let next : drop c.loop-buffer._buffer c.args.self.now.given ≡ c.in-Some.place ∷ c.pop_front.new.self.items = search rules in
    let within : nat_lt c.in-Some.place (length c.args.self.now.used) ≡ true = search rules in
    let number : c.in-Some-number_in.number ≡ number_at c.args.self.now.used c.in-Some.place = search rules in
    let more : map (number_at c.args.self.now.used) (take (c.loop-buffer._buffer + 1) c.args.self.now.given) ≡ map (number_at c.args.self.now.used) (take c.loop-buffer._buffer c.args.self.now.given) ++ c.in-Some-number_in.number ∷ [] =
    ap (map (number_at c.args.self.now.used)) (take-next c.args.self.now.given c.loop-buffer._buffer c.in-Some.place c.pop_front.new.self.items next)
    ∙ map-append (number_at c.args.self.now.used) (take c.loop-buffer._buffer c.args.self.now.given) (c.in-Some.place ∷ [])
    ∙ ap (λ (n : ℕ). map (number_at c.args.self.now.used) (take c.loop-buffer._buffer c.args.self.now.given) ++ n ∷ []) (sym number) in
    let grown : c.push_back.new.self.items ≡ c.loop-buffer.self-inside.free.items ++ c.in-Some-number_in.number ∷ [] = search rules in
    let free : c.push_back.new.self.items ≡ c.args.self.now.free ++ map (number_at c.args.self.now.used) (take (c.loop-buffer._buffer + 1) c.args.self.now.given) =
    grown
    ∙ ap (λ (ns : List ℕ). ns ++ c.in-Some-number_in.number ∷ []) (search rules)
    ∙ append_assoc c.args.self.now.free (map (number_at c.args.self.now.used) (take c.loop-buffer._buffer c.args.self.now.given)) (c.in-Some-number_in.number ∷ [])
    ∙ ap (λ (ns : List ℕ). c.args.self.now.free ++ ns) (sym more) in
    (search rules, sym (drop-next c.args.self.now.given c.loop-buffer._buffer c.in-Some.place c.pop_front.new.self.items next), free, pass-next (λ place. nat_lt place (length c.args.self.now.used)) c.args.self.now.given c.loop-buffer._buffer c.in-Some.place c.pop_front.new.self.items next (search rules) within)
