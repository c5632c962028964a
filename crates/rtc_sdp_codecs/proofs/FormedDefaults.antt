-- The defaults are formed.
use Rattle.std.proofs.Common.{rules}
use Rattle.rtc_sdp_codecs.specs.Codec.{default_rows}
use Rattle.rtc_sdp_codecs.specs.FormedCodecs.{AreFormedRows, AreFormedExtensions}
use Rattle.rtc_sdp_values.specs.ExtensionMap.{standard_rows}

pub defaults_formed : AreFormedRows default_rows
defaults_formed = search rules

pub standard_formed : AreFormedExtensions standard_rows
standard_formed = search rules
