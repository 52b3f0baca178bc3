use Rattle.std.proofs.Common.{◌≡◌, ◌≤◌, ◌++◌, length, List, ℕ, [], drop, inl, inr, Ok, Err, refl, ap, sym, ◌∙◌, rules}
use Rattle.std.proofs.lemmas.Bool.{cases_Bool}
use Rattle.std.proofs.lemmas.List.{append-nil, drop_all}
use Rattle.call_service.specs.declared.reply.Reply.{Reply}
use Rattle.call_service.specs.declared.request.Request.{Request}
use Rattle.call_service.specs.declared.request.ServiceFault.TheVariants.{Full}
use Rattle.call_service.specs.Bytes.{request_in, reply_bytes}
use Rattle.call_service.specs.Served.{served}
use Rattle.call_service.specs.Handled.{State, is_full, handled_request}
use Rattle.call_service.specs.Steps.{reply_or_full}
use Rattle.call_service.proofs.service.Service.handle.Goals as goal

is_replied : (s : State) (r : Request) (p : Reply) (old : List ℕ) → reply_or_full s r ≡ Ok p → reply_bytes r.number p ≡ (handled_request s old (Ok r)).reply
is_replied s r p old has =
    elim (cases_Bool (is_full s r)) [
      | inl full ↦ absurd (let other : Err Full ≡ reply_or_full s r = rw full refl in let both : Err Full ≡ Ok p = other ∙ has in cc)
      | inr room ↦
          let same : Ok (served s.history r).reply ≡ reply_or_full s r = rw room refl in
          let both : Ok (served s.history r).reply ≡ Ok p = same ∙ has in
          let is : p ≡ (served s.history r).reply = cc in
          ap (reply_bytes r.number) is ∙ rw room refl
    ]

pub returns-clause-reply : goal.returns-clause-reply
returns-clause-reply c =
    let r = c.in_ok-request.request in
    let old = c.args.reply.now in
    let is : request_in c.args.request.now ≡ Ok r = sym c.read_request.ensures ∙ c.in_ok-request.was in
    let has : reply_or_full c.args.self.now r ≡ Ok c.in_ok-answer.answer = sym c.answer.ensures.answer ∙ c.in_ok-answer.was in
    let size : length old ≤ 16 = search rules in
    let rest : drop 16 old ≡ [] = drop_all 16 old size in
    c.write_reply.ensures
    ∙ ap (λ x. reply_bytes r.number c.in_ok-answer.answer ++ x) rest
    ∙ append-nil (reply_bytes r.number c.in_ok-answer.answer)
    ∙ is_replied c.args.self.now r c.in_ok-answer.answer old has
    ∙ sym (ap (λ x. (handled_request c.args.self.now old x).reply) is)
