-- The line of what the code read of a frame.
-- Source: docs/FORMATS.md, "Text of a frame".
use Rattle.std.specs.Prelude.{ℕ, List}
use Rattle.mc_base.specs.Limits.{name_service_address}
use Rattle.mc_base.specs.Letter.{saying_of}
use Rattle.scenario_cli.specs.declared.frame.content.Content.{Content}
use Rattle.scenario_cli.specs.declared.frame.content.Content.TheVariants as content
use Rattle.scenario_cli.specs.FrameText.{right_line, saying_words, announcement_words}

abbrev pub content_line : Content → List ℕ
content_line (content.Letter src dst letter) = right_line src dst (saying_words (saying_of letter))
content_line (content.Announcement src ns) = right_line src name_service_address (announcement_words ns.name.items ns.addr ns.create)
