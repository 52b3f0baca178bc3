-- What was read of a frame, as the reading that the definitions have.
use Rattle.mc_base.specs.Letter.{saying_of}
use Rattle.mc_base.specs.Reading.{Reading, is_faulty, announces, says_so}
use Rattle.name_service.specs.declared.said.Said.{Said}
use Rattle.name_service.specs.declared.said.Said.TheVariants.{Faulty, Announces, Sends}

abbrev pub reading_of : Said → Reading
reading_of (Faulty fault) = is_faulty fault
reading_of (Announces ns) = announces ns.name.items ns.addr ns.create
reading_of (Sends src dst letter) = says_so src dst (saying_of letter)
