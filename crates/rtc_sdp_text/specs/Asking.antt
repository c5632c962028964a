-- The words of the command line.
use Rattle.std.specs.Prelude.{ℕ, List, [], ◌∷◌, codes, Option, Some, None, if◌then◌else◌}
use Rattle.std.specs.Str.{bytes_eq}
use Rattle.rtc_sdp_text.specs.declared.asking.Asked.{Asked}
use Rattle.rtc_sdp_text.specs.declared.asking.Asked.TheVariants.{Rewrite, Explain}
use Rattle.rtc_sdp_text.specs.declared.sdp_kind.SdpKind.TheVariants.{Offer, Answer}

-- what one word asks for
abbrev pub asked_by_word : List ℕ → Option Asked
asked_by_word word =
    if bytes_eq word (codes "offer") then Some (Rewrite Offer)
    else if bytes_eq word (codes "answer") then Some (Rewrite Answer)
    else if bytes_eq word (codes "explain") then Some Explain
    else None

-- what the words ask for: there is one word
abbrev pub asked : List (List ℕ) → Option Asked
asked (word ∷ []) = asked_by_word word
asked _ = None
