-- What some messages carry, computed.
use Rattle.std.proofs.Common.{◌≡◌, true, false, [], ◌∷◌, refl}
use Rattle.rtc_parts.specs.declared.ppi.Ppi.TheVariants as ppi
use Rattle.rtc_sctp_entries.specs.declared.sctp_event.SctpEvent.TheVariants as event
use Rattle.rtc_sctp_laws.specs.StreamMessages.{stream_message}
use Rattle.rtc_sctp_laws.specs.StreamUses.{messages_of}
use Rattle.rtc_sctp_laws.specs.Contents.{contents_of, contents_by, data_of}

-- an acknowledgement, two texts and a number of bytes
carried : contents_of (stream_message 0 0 ppi.Dcep (2 ∷ []) ∷ stream_message 0 0 ppi.Text (104 ∷ 105 ∷ []) ∷ stream_message 0 0 ppi.EmptyText (0 ∷ []) ∷ stream_message 0 0 ppi.Binary (7 ∷ []) ∷ [])
    ≡ (false, 104 ∷ 105 ∷ []) ∷ (false, []) ∷ (true, 7 ∷ []) ∷ []
carried = refl

-- the same by the numbers of RFC 8831
by_numbers : contents_by (record { identifier = 50; bytes = 2 ∷ [] } ∷ record { identifier = 51; bytes = 104 ∷ 105 ∷ [] } ∷ record { identifier = 56; bytes = 0 ∷ [] } ∷ record { identifier = 53; bytes = 7 ∷ [] } ∷ [])
    ≡ (false, 104 ∷ 105 ∷ []) ∷ (false, []) ∷ (true, 7 ∷ []) ∷ []
by_numbers = refl

-- of two streams and two generations
of_one : contents_of (messages_of 4 1 (stream_message 4 0 ppi.Text (97 ∷ []) ∷ stream_message 6 1 ppi.Text (98 ∷ []) ∷ stream_message 4 1 ppi.Text (99 ∷ []) ∷ [])) ≡ (false, 99 ∷ []) ∷ []
of_one = refl

told : data_of 4 (event.Data 4 false (97 ∷ []) ∷ event.Data 6 true [] ∷ event.BufferedAmountLow 4 ∷ event.Data 4 true [] ∷ []) ≡ (false, 97 ∷ []) ∷ (true, []) ∷ []
told = refl
