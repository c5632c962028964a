-- Layers that are written are read back.
use Rattle.std.proofs.Common.{◌≡◌, ◌≢◌, ℕ, ◌<◌, Bool, true, false, eqb, cond, List, [], ◌∷◌, ◌++◌, Some, refl, sym, ap, ◌∙◌, arith, rules}
use Rattle.std.specs.Prelude.{codes, option_map}
use Rattle.std.specs.List.{AllByRecursion}
use Rattle.std.specs.Str.{bytes_eq}
use Rattle.std.proofs.lemmas.Bool.{ne_eqb}
use Rattle.rtc_wire_text.specs.Cuts.{Lacks}
use Rattle.rtc_wire_text.specs.Fields.{each}
use Rattle.rtc_wire_text.specs.Fronts.{from_first, is_byte}
use Rattle.rtc_wire_text.specs.Once.{each_once}
use Rattle.rtc_wire_text.specs.Tokens.{is_token_byte, is_short_token}
use Rattle.rtc_wire_text.specs.Words.{words, joined, spaced}
use Rattle.rtc_wire_text.proofs.CutLemmas.{cut_none, parts-after_each, words-spaced, short_token_lacks, no_token_byte, lacks-append, lacks-joined, printable_lacks}
use Rattle.rtc_wire_text.proofs.OnceLemmas.{each_once_apart, bytes_tell}
use Rattle.std.proofs.lemmas.List.{append-nil}
use Rattle.rtc_sdp_values.specs.declared.simulcast.Simulcast.{Simulcast}
use Rattle.rtc_sdp_attributes.specs.declared.rid_direction.RidDirection.TheVariants.{Send, Recv}
use Rattle.rtc_sdp_attributes.specs.AttributeForms.{layer_name, layer_names, one_way, simulcast_words, simulcast as simulcast_form}
use Rattle.rtc_sdp_attributes.specs.AttributeTexts.{list_text, ways_text, rids_in, simulcast_text}
use Rattle.rtc_sdp_attributes.specs.PlainValues.{is_listed, IsPlainList}

listed_token : (rid : List ℕ) → is_listed rid ≡ true → is_short_token rid ≡ true
listed_token [] h = absurd cc
listed_token (b ∷ bs) h = go (eqb b 126) h
  where
    go : (t : Bool) → cond t false (is_short_token (b ∷ bs)) ≡ true → is_short_token (b ∷ bs) ≡ true
    go true e = absurd cc
    go false e = e

listed_front : (rid : List ℕ) → is_listed rid ≡ true → from_first (is_byte 126) rid ≡ rid
listed_front [] h = refl
listed_front (b ∷ bs) h = go (eqb b 126) refl h
  where
    go : (t : Bool) → eqb b 126 ≡ t → cond t false (is_short_token (b ∷ bs)) ≡ true → from_first (is_byte 126) (b ∷ bs) ≡ b ∷ bs
    go true e k = absurd cc
    go false e k = rw e refl

rid_again : (rid : List ℕ) → is_listed rid ≡ true → layer_name rid ≡ Some rid
rid_again rid h =
    let token = listed_token rid h in
    rw (cut_none 44 rid (short_token_lacks 44 refl rid token), listed_front rid h, token) refl

rids_each : (rids : List (List ℕ)) → AllByRecursion (λ rid. is_listed rid ≡ true) rids → each layer_name rids ≡ Some rids
rids_each [] h = refl
rids_each (r ∷ rs) h = rw (rid_again r h.0, rids_each rs h.1) refl

rids_lack : (byte : ℕ) → is_token_byte byte ≡ false → (rids : List (List ℕ)) → AllByRecursion (λ rid. is_listed rid ≡ true) rids → AllByRecursion (λ w. Lacks byte w) rids
rids_lack byte out [] h = tt
rids_lack byte out (r ∷ rs) h = (short_token_lacks byte out r (listed_token r h.0), rids_lack byte out rs h.1)

rids_again : (r : List ℕ) (rs : List (List ℕ)) → IsPlainList (r ∷ rs) → layer_names (joined 59 (r ∷ rs)) ≡ Some (r ∷ rs)
rids_again r rs h =
    let lack = rids_lack 59 refl (r ∷ rs) h.listed in
    ap (λ (l : List (List ℕ)). option_map (each_once bytes_eq) (each layer_name l)) (parts-after_each 59 r rs lack.0 lack.1)
    ∙ ap (option_map (each_once bytes_eq)) (rids_each (r ∷ rs) h.listed)
    ∙ ap Some (each_once_apart bytes_eq bytes_tell (r ∷ rs) h.apart)

list_lacks_space : (r : List ℕ) (rs : List (List ℕ)) → IsPlainList (r ∷ rs) → Lacks 32 (joined 59 (r ∷ rs))
list_lacks_space r rs h = lacks-joined 32 59 refl (r ∷ rs) (rids_lack 32 refl (r ∷ rs) h.listed)

-- a list behind its word, and nothing more
one_list : (word : List ℕ) (r : List ℕ) (rs : List (List ℕ)) → Lacks 32 word → IsPlainList (r ∷ rs) → words (list_text word (r ∷ rs)) ≡ word ∷ joined 59 (r ∷ rs) ∷ []
one_list word r rs w h =
    ap (λ (l : List ℕ). words (word ++ (32 ∷ l))) (sym (append-nil (joined 59 (r ∷ rs))))
    ∙ words-spaced word (joined 59 (r ∷ rs) ∷ []) w (list_lacks_space r rs h, tt)

two_lists : (s : List ℕ) (ss : List (List ℕ)) (r : List ℕ) (rs : List (List ℕ)) → IsPlainList (s ∷ ss) → IsPlainList (r ∷ rs)
    → words (list_text (codes "send") (s ∷ ss) ++ (32 ∷ list_text (codes "recv") (r ∷ rs))) ≡ codes "send" ∷ joined 59 (s ∷ ss) ∷ codes "recv" ∷ joined 59 (r ∷ rs) ∷ []
two_lists s ss r rs h k =
    let a = joined 59 (s ∷ ss) in
    let b = joined 59 (r ∷ rs) in
    let regroup : (codes "send" ++ (32 ∷ a)) ++ (32 ∷ (codes "recv" ++ (32 ∷ b))) ≡ codes "send" ++ spaced (a ∷ codes "recv" ∷ b ∷ []) = ap (λ (l : List ℕ). codes "send" ++ (32 ∷ (a ++ (32 ∷ (codes "recv" ++ (32 ∷ l)))))) (sym (append-nil b)) in
    ap words regroup
    ∙ words-spaced (codes "send") (a ∷ codes "recv" ∷ b ∷ []) (search rules) (list_lacks_space s ss h, (search rules, (list_lacks_space r rs k, tt)))

-- what the two lists of a text say
ways_again : (send recv : List (List ℕ)) → IsPlainList send → IsPlainList recv → (send ++ recv ≢ []) → simulcast_form (ways_text send recv) ≡ Some (record { send = send; recv = recv })
ways_again [] [] h k some = absurd (some refl)
ways_again (s ∷ ss) [] h k some = ap simulcast_words (one_list (codes "send") s ss (search rules) h) ∙ ap (one_way (Some Send)) (rids_again s ss h)
ways_again [] (r ∷ rs) h k some = ap simulcast_words (one_list (codes "recv") r rs (search rules) k) ∙ ap (one_way (Some Recv)) (rids_again r rs k)
ways_again (s ∷ ss) (r ∷ rs) h k some =
    ap simulcast_words (two_lists s ss r rs h k)
    ∙ rw (rids_again s ss h, rids_again r rs k) refl

pub simulcast_again : (simulcast : Simulcast) → IsPlainList (rids_in simulcast.send) → IsPlainList (rids_in simulcast.recv) → (rids_in simulcast.send ++ rids_in simulcast.recv ≢ [])
    → simulcast_form (simulcast_text simulcast) ≡ Some (record { send = rids_in simulcast.send; recv = rids_in simulcast.recv })
unfolding simulcast_text
simulcast_again simulcast h k some = ways_again (rids_in simulcast.send) (rids_in simulcast.recv) h k some

list_lacks : (byte : ℕ) → byte < 32 → (word : List ℕ) (rids : List (List ℕ)) → Lacks byte word → IsPlainList rids → Lacks byte (list_text word rids)
list_lacks byte low word rids w h =
    lacks-append byte word (32 ∷ joined 59 rids) w
    (ne_eqb 32 byte (λ e. omega arith), lacks-joined byte 59 (ne_eqb 59 byte (λ e. omega arith)) rids (rids_lack byte (no_token_byte byte (omega arith)) rids h.listed))

ways_lack : (byte : ℕ) → byte < 32 → (send recv : List (List ℕ)) → IsPlainList send → IsPlainList recv → Lacks byte (ways_text send recv)
ways_lack byte low [] [] h k = tt
ways_lack byte low (s ∷ ss) [] h k = list_lacks byte low (codes "send") (s ∷ ss) (printable_lacks byte low (codes "send") refl) h
ways_lack byte low [] (r ∷ rs) h k = list_lacks byte low (codes "recv") (r ∷ rs) (printable_lacks byte low (codes "recv") refl) k
ways_lack byte low (s ∷ ss) (r ∷ rs) h k =
    lacks-append byte (list_text (codes "send") (s ∷ ss)) (32 ∷ list_text (codes "recv") (r ∷ rs))
    (list_lacks byte low (codes "send") (s ∷ ss) (printable_lacks byte low (codes "send") refl) h)
    (ne_eqb 32 byte (λ e. omega arith), list_lacks byte low (codes "recv") (r ∷ rs) (printable_lacks byte low (codes "recv") refl) k)

pub simulcast_lacks : (byte : ℕ) → byte < 32 → (simulcast : Simulcast) → IsPlainList (rids_in simulcast.send) → IsPlainList (rids_in simulcast.recv) → Lacks byte (simulcast_text simulcast)
unfolding simulcast_text
simulcast_lacks byte low simulcast h k = ways_lack byte low (rids_in simulcast.send) (rids_in simulcast.recv) h k
