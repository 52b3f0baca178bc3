-- The line that an actor gives may follow, as the contract of its call has it.
use Rattle.std.proofs.Common.{◌≡◌, ◌<◌, ◌≤◌, ℕ, List, ◌++◌, Option, Some, None, option_to_list, refl, sym}
use Rattle.std.specs.Prelude.{IfSome}
use Rattle.std.specs.List.{AllByRecursion}
use Rattle.board_model.specs.declared.scenario.CallLine.{CallLine}
use Rattle.board_model.specs.Journal.{PlainAnswer, agrees}
use Rattle.board_model.specs.Logs.{LoggedCall}
use Rattle.board_runner.specs.ActorLogs.{IsToldFor, MayFollow, lines_in_log, log_so_far}
use Rattle.call_logs.specs.declared.got.Got.{Got}
use Rattle.call_actor.specs.declared.place.ClientPlace.{ClientPlace}
use Rattle.call_actor.specs.declared.place.Going.{Going}
use Rattle.call_actor.specs.declared.place.ServerPlace.{ServerPlace}
use Rattle.call_actor.specs.declared.rules.ServerRole.{ServerRole}
use Rattle.call_actor.specs.ClientSteps.{ClientRole, going}
use Rattle.call_actor.specs.ClientStands.{ClientFits, IsWithin}
use Rattle.call_actor.specs.ServerSteps as s
use Rattle.call_actor.specs.ServerSteps.{Held}
use Rattle.call_actor.specs.ServerStands.{ServerFits}
use Rattle.call_actor.specs.ServerStands as stands
use Rattle.call_actor.proofs.ClientGoes as client
use Rattle.call_actor.proofs.ClientNext.{due_here}
use Rattle.call_actor.proofs.LinesFollow.{client_may, server_may}
use Rattle.call_actor.proofs.ServerGoes as server

if_given : {A : Type 0} (o : Option A) (P : A → Type 0) → ((x : A) → o ≡ Some x → P x) → IfSome o P
if_given None P given = tt
if_given (Some x) P given = given x refl

module _ (c : ClientRole) (small : c.domain ≤ 7) (some : 1 ≤ c.repeat) (cells : AllByRecursion (λ k. k.0 < 16) c.calls)
    (place : ClientPlace) (first : List ℕ) (gots : List Got) (asked : Option CallLine) (told : Option PlainAnswer) (g : Going) (is : g ≡ going c place first told) (within : IsWithin c place) (fit : IsToldFor asked told) where
  pub client_follows : IfSome g.line (λ l. (log : List LoggedCall) → ClientFits c place first gots asked log → MayFollow c.domain (lines_in_log (log_so_far log asked told)) l)
  client_follows = if_given g.line _ (λ line line_is log f.
      let more : List Got = gots ++ option_to_list g.got in
      let now : List LoggedCall = log_so_far log asked told in
      let after : ClientFits c g.place g.first more (Some line) now = client.fits_after c some place first gots asked told g is within fit more refl (Some line) (sym line_is) log f in
      client_may c.domain c.repeat c.calls small cells now line after.fits (due_here c some g.place g.first more line now agrees after (client.within_after c some place first gots asked told g is within)))

module _ (c : ServerRole) (few : c.clients < 8) (place : ServerPlace) (held : Held) (asked : Option CallLine) (told : Option PlainAnswer) (next : ServerPlace) (kept : Held) (line : Option CallLine) (is : record { place = next; held = kept; line = line } ≡ s.going c place held told) (within : stands.IsWithin c place held) (fit : IsToldFor asked told) where
  pub server_follows : IfSome line (λ l. (log : List LoggedCall) → ServerFits c place held asked log → MayFollow 0 (lines_in_log (log_so_far log asked told)) l)
  server_follows = if_given line _ (λ l line_is log f.
      let now : List LoggedCall = log_so_far log asked told in
      let after : ServerFits c next kept (Some l) now = server.fits_after c few place held asked told next kept line is within fit (Some l) (sym line_is) log f in
      server_may c.clients c.repeat c.calls few now l after.fits after.stands.due_is)
