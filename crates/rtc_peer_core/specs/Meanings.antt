-- What the five parts of a peer mean, together.
use Rattle.rtc_parts.specs.IceMeaning.{IceMeaning}
use Rattle.rtc_parts.specs.IceLaws.{IceLaws}
use Rattle.rtc_parts.specs.DtlsMeaning.{DtlsMeaning}
use Rattle.rtc_parts.specs.DtlsLaws.{DtlsLaws}
use Rattle.rtc_parts.specs.AssociationMeaning.{AssociationMeaning}
use Rattle.rtc_parts.specs.AssociationLaws.{AssociationLaws}
use Rattle.rtc_parts.specs.MediaMeaning.{MediaMeaning}
use Rattle.rtc_parts.specs.MediaLaws.{MediaLaws}
use Rattle.rtc_parts.specs.Draws.{Draws}

-- I is the ICE agent, D the DTLS part, S the association and M the media part, whose events, streams and writers are E, X, T
-- and W; N is the source of numbers
pub record Meanings (I D S M E X T W N : Type 0) : Type 1 where
  pub ice : IceMeaning I
  pub dtls : DtlsMeaning D
  pub association : AssociationMeaning S
  pub media : MediaMeaning M E X T W
  pub ids : Draws N

abbrev pub meanings : {I D S M E X T W N : Type 0} → IceMeaning I → DtlsMeaning D → AssociationMeaning S → MediaMeaning M E X T W
    → Draws N → Meanings I D S M E X T W N
meanings ice dtls association media ids = record {
  ice = ice;
  dtls = dtls;
  association = association;
  media = media;
  ids = ids;
}

-- what holds of the parts that negotiation moves
pub record PartsLaws {I D S M E X T W N : Type 0} (m : Meanings I D S M E X T W N) : Type 0 where
  pub ice : IceLaws m.ice
  pub dtls : DtlsLaws m.dtls
  pub association : AssociationLaws m.association
  pub media : MediaLaws m.media
