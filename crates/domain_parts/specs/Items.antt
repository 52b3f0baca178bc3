-- A message that comes to an endpoint.
-- Source: docs/PROFILE.md, "What a domain does with a taken frame".
use Rattle.std.specs.Prelude.{◌≡◌, ℕ, Bool, true, false, Some}
use Rattle.mc_base.specs.declared.fate.Fate.TheVariants.{OnChannel}
use Rattle.request_set.specs.Requests.{Requests}
use Rattle.domain_parts.specs.declared.dealing.Verdict.{Verdict}
use Rattle.domain_parts.specs.declared.dealing.Verdict.TheVariants as verdict
use Rattle.domain_parts.specs.Accepting.{has_end}
use Rattle.domain_parts.specs.Records.{Records}
use Rattle.domain_parts.specs.Verdicts.{Brings}

-- by whether the endpoint at the place has a channel
abbrev pub BringsUnless : Bool → Records → Requests → ℕ → ℕ → ℕ → Verdict → Type 0
BringsUnless true r q place priority size v = v ≡ verdict.Returned OnChannel
BringsUnless false r q place priority size v = Brings r q place priority size v

-- a message of this priority and size comes to the endpoint at a place, where it is queued or handed, unless the endpoint has a channel
pub record BringsMessage (r : Records) (q : Requests) (place priority size : ℕ) (v : Verdict) : Type 0 where
  pub has : Bool
  pub there : Some has ≡ has_end r place
  pub does : BringsUnless has r q place priority size v
