-- Words are read back.
use Rattle.std.proofs.Common.{◌≡◌, ℕ, true, List, Some}
use Rattle.rtc_sdp_attributes.specs.Forms.{is_word_up_to, is_spaceless, word_up_to, spaceless}
use Rattle.rtc_sdp_attributes.proofs.FormLemmas.{passing_again}

pub word_again : (most : ℕ) (text : List ℕ) → is_word_up_to most text ≡ true → word_up_to most text ≡ Some text
word_again most text h = passing_again (is_word_up_to most) text h

pub spaceless_again : (text : List ℕ) → is_spaceless text ≡ true → spaceless text ≡ Some text
spaceless_again text h = passing_again is_spaceless text h
