-- The codecs and header extensions of the default configuration are formed.
use Rattle.std.proofs.Common.{◌≡◌, sym, subst}
use Rattle.rtc_sdp_values.specs.declared.codec_config.CodecConfig.{CodecConfig}
use Rattle.rtc_sdp_values.specs.declared.extension_map.ExtensionMap.{ExtensionMap}
use Rattle.rtc_sdp_codecs.proofs.FormedDefaults.{defaults_formed, standard_formed}
use Rattle.rtc_sdp_codecs.specs.FormedCodecs.{AreFormedRows, AreFormedExtensions}
use Rattle.rtc_config.specs.RtcConfig.{unset_codecs, unset_extensions}

rows_formed : AreFormedRows unset_codecs.rows
unfolding unset_codecs
rows_formed = defaults_formed

extensions_formed : AreFormedExtensions unset_extensions.rows
unfolding unset_extensions
extensions_formed = standard_formed

pub rows_where_unset : (codecs : CodecConfig) → codecs ≡ unset_codecs → AreFormedRows codecs.rows
rows_where_unset codecs same = subst (λ (c : CodecConfig). AreFormedRows c.rows) (sym same) rows_formed

pub extensions_where_unset : (extensions : ExtensionMap) → extensions ≡ unset_extensions → AreFormedExtensions extensions.rows
extensions_where_unset extensions same = subst (λ (e : ExtensionMap). AreFormedExtensions e.rows) (sym same) extensions_formed
