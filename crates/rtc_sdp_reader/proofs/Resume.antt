-- What the reader will answer if these lines come next: the reading, from where it stands.
use Rattle.std.proofs.Common.{◌≡◌, ℕ, ◌+◌, nat_eq, Bool, true, false, not, cond, List, [], ◌∷◌, ◌++◌, Option, Some, None, Result, Ok, Err, refl, sym, ap, ◌∙◌, append_assoc, zero-add, add-zero, length, map, arith, subst}
use Rattle.std.specs.Prelude.{filter}
use Rattle.std.specs.List.{cons_option}
use Rattle.std.specs.Option.{option_or}
use Rattle.std.specs.Result.{IsErrAnd}
use Rattle.std.proofs.lemmas.Bool.Decides.{nat_tests}
use Rattle.std.proofs.lemmas.List.{append-nil}
use Rattle.rtc_wire_text.specs.Fields.{first}
use Rattle.rtc_sdp_values.specs.declared.media_line.MediaLine.{MediaLine}
use Rattle.rtc_sdp_values.specs.declared.sdp.Sdp.{Sdp}
use Rattle.rtc_sdp_values.specs.declared.sdp_error.SdpError.{SdpError}
use Rattle.rtc_sdp_values.specs.declared.sdp_error.SdpError.TheVariants.{Parse, Inconsistent, Alloc}
use Rattle.rtc_sdp_grammar.specs.declared.attribute.Attribute.{Attribute}
use Rattle.rtc_sdp_grammar.specs.declared.item.Item.{Item}
use Rattle.rtc_sdp_grammar.specs.declared.item.Item.TheVariants.{Blank, Bad, BadMedia, Skipped, Version, Origin, Media, Says, Malformed}
use Rattle.rtc_sdp_grammar.specs.declared.level.Level.TheVariants.{SessionLevel, MediaLevel, AnyLevel}
use Rattle.rtc_sdp_grammar.specs.declared.media_head.MediaHead.{MediaHead}
use Rattle.rtc_wire_text.specs.Lines.{lines}
use Rattle.rtc_sdp_grammar.specs.ItemForm.{item_of, items_of}
use Rattle.rtc_sdp_reader.specs.declared.part.Part.{Part}
use Rattle.rtc_sdp_reader.specs.declared.place.Place.TheVariants.{First, Second, Session, Line}
use Rattle.rtc_sdp_reader.specs.declared.reader.Reader.{Reader}
use Rattle.rtc_sdp_reader.specs.declared.stage.Stage.{Stage}
use Rattle.rtc_sdp_reader.specs.declared.stage.Stage.TheVariants.{AwaitVersion, AwaitOrigin, InSession, InLine}
use Rattle.rtc_sdp_reader.specs.Parting.{inner, attributes, is_mid_line, mid_lines}
use Rattle.rtc_sdp_reader.specs.Refusal.{next_number, refused_from}
use Rattle.rtc_sdp_reader.specs.Said.{part_said}
use Rattle.rtc_sdp_reader.specs.LineValue.{line_of, lines_of}
use Rattle.rtc_sdp_reader.specs.SessionValue.{origin_of, sdp_made, sdp_of}
use Rattle.rtc_sdp_reader.specs.Reading.{GivesReading, judged, items_reading}
use Rattle.rtc_sdp_reader.specs.Putting.{put_attribute, start, step, finish, StepsTo}
use Rattle.rtc_sdp_reader.proofs.PutLaws.{joined, joined_end, joined_put, or_assoc}

-- the value: the part that is being built goes on with what comes
abbrev finished : Stage → Option ℕ → Part → List MediaLine → Part → List Item → Sdp
finished (InLine own) id session lines part rest =
    sdp_made (option_or id (first origin_of rest)) session (lines ++ cons_option (line_of own (joined part (part_said (attributes true rest)))) (lines_of rest))
finished _ id session lines part rest = sdp_made (option_or id (first origin_of rest)) (joined session (part_said (attributes false rest))) (lines ++ lines_of rest)

-- a line part without exactly one `mid` line is refused at its `m=` line, else the first refused line counts, whether it was read or comes
abbrev resume_at : Stage → ℕ → Option ℕ → Part → List MediaLine → Part → ℕ → ℕ → Option ℕ → List Item → Result Sdp ℕ
resume_at (InLine own) number id session lines part mids begun refused rest =
    cond (nat_eq (mids + mid_lines rest) 1) (judged (option_or refused (refused_from Line number rest)) (finished (InLine own) id session lines part rest)) (Err begun)
resume_at AwaitVersion number id session lines part mids begun refused rest = judged (refused_from First number rest) (finished AwaitVersion id session lines part rest)
resume_at AwaitOrigin number id session lines part mids begun refused rest = judged (refused_from Second number rest) (finished AwaitOrigin id session lines part rest)
resume_at InSession number id session lines part mids begun refused rest = judged (refused_from Session number rest) (finished InSession id session lines part rest)

unfoldable pub resume : Reader → List Item → Result Sdp ℕ
resume r rest = resume_at r.stage r.number r.id r.session r.lines r.part r.mids r.begun r.refused rest

abbrev state : Stage → ℕ → Option ℕ → Part → List MediaLine → Part → ℕ → ℕ → Option ℕ → Reader
state stage number id session lines part mids begun refused = record {
  stage = stage;
  number = number;
  id = id;
  session = session;
  lines = lines;
  part = part;
  mids = mids;
  begun = begun;
  refused = refused;
}

-- after a step
abbrev pub after : Result Reader ℕ → List Item → Result Sdp ℕ
after (Ok r) rest = resume r rest
after (Err n) rest = Err n

-- ---- counts of `mid` lines: that a count stops somewhere above 1 changes nothing
one_counted : (mids more : ℕ) → nat_eq (next_number mids + more) 1 ≡ nat_eq (mids + (more + 1)) 1
one_counted mids more = grind (arith, nat_tests)

one_more : (item : Item) (items : List Item) (mids : ℕ) → nat_eq (cond (is_mid_line item) (next_number mids) mids + length (filter is_mid_line items)) 1 ≡ nat_eq (mids + length (filter is_mid_line (item ∷ items))) 1
one_more item items mids = go (is_mid_line item) refl
  where
    go : (b : Bool) → is_mid_line item ≡ b → nat_eq (cond (is_mid_line item) (next_number mids) mids + length (filter is_mid_line items)) 1 ≡ nat_eq (mids + length (filter is_mid_line (item ∷ items))) 1
    go true e = rw e (one_counted mids (length (filter is_mid_line items)) ∙ ap (λ (n : ℕ). nat_eq (mids + n) 1) (omega arith))
    go false e = rw e refl

-- ---- line parts that have ended
pushed : (lines : List MediaLine) (line : Option MediaLine) (rest : List MediaLine) → (lines ++ cons_option line []) ++ rest ≡ lines ++ cons_option line rest
pushed lines None rest = ap (λ (l : List MediaLine). l ++ rest) (append-nil lines)
pushed lines (Some line) rest = append_assoc lines (line ∷ []) rest

-- a line part has its `mid`, or is refused at its `m=` line
has_mid : (one : Bool) (number : ℕ) (more : Option ℕ) (sdp : Sdp) → cond one (judged more sdp) (Err number) ≡ judged (cond (not one) (Some number) more) sdp
has_mid true number more sdp = refl
has_mid false number more sdp = refl

-- ---- a line part begins
-- the line parts from this one on
abbrev lines_from : MediaHead → List Item → List MediaLine
lines_from head rest = cons_option (line_of head (part_said (attributes true rest))) (lines_of rest)

abbrev id_with : Option ℕ → List Item → Option ℕ
id_with id rest = option_or id (first origin_of rest)

-- the number of the line that refuses the part which begins, or of one behind
abbrev refused_or : ℕ → List Item → Option ℕ
refused_or number rest = cond (not (nat_eq (mid_lines rest) 1)) (Some number) (refused_from Line number rest)

first_begins : (number : ℕ) (id : Option ℕ) (session : Part) (lines : List MediaLine) (part : Part) (mids begun : ℕ) (refused : Option ℕ) (head : MediaHead) (rest : List Item)
    → after (step (state InSession number id session lines part mids begun refused) (Media head)) rest ≡ resume_at InSession number id session lines part mids begun refused (Media head ∷ rest)
unfolding resume
first_begins number id session lines part mids begun refused head rest =
    let all : List MediaLine = lines ++ lines_from head rest in
    rw (zero-add (mid_lines rest))
    (has_mid (nat_eq (mid_lines rest) 1) (next_number number) (refused_from Line (next_number number) rest) (sdp_made (id_with id rest) session all)
    ∙ ap (λ (said : Part). judged (refused_or (next_number number) rest) (sdp_made (id_with id rest) said all)) (sym (joined_end session)))

next_begins : (own : MediaHead) (number : ℕ) (id : Option ℕ) (session : Part) (lines : List MediaLine) (part : Part) (mids begun : ℕ) (refused : Option ℕ) (head : MediaHead) (rest : List Item) (one : Bool) → nat_eq mids 1 ≡ one
    → after (step (state (InLine own) number id session lines part mids begun refused) (Media head)) rest ≡ resume_at (InLine own) number id session lines part mids begun refused (Media head ∷ rest)
unfolding resume
next_begins own number id session lines part mids begun refused head rest false e = rw (add-zero mids, e) refl
next_begins own number id session lines part mids begun (Some n) head rest true e = rw (add-zero mids, e) refl
next_begins own number id session lines part mids begun None head rest true e =
    let more : List MediaLine = lines_from head rest in
    let behind : Option ℕ = refused_from Line (next_number number) rest in
    rw (add-zero mids, e, zero-add (mid_lines rest))
    (ap (λ (all : List MediaLine). cond (nat_eq (mid_lines rest) 1) (judged behind (sdp_made (id_with id rest) session all)) (Err (next_number number))) (pushed lines (line_of own part) more)
    ∙ has_mid (nat_eq (mid_lines rest) 1) (next_number number) behind (sdp_made (id_with id rest) session (lines ++ cons_option (line_of own part) more))
    ∙ ap (λ (said : Part). judged (refused_or (next_number number) rest) (sdp_made (id_with id rest) session (lines ++ cons_option (line_of own said) more))) (sym (joined_end part)))

-- a malformed `m=` line ends one
bad_begins : (own : MediaHead) (number : ℕ) (id : Option ℕ) (session : Part) (lines : List MediaLine) (part : Part) (mids begun : ℕ) (refused : Option ℕ) (rest : List Item) (one : Bool) → nat_eq mids 1 ≡ one
    → after (step (state (InLine own) number id session lines part mids begun refused) BadMedia) rest ≡ resume_at (InLine own) number id session lines part mids begun refused (BadMedia ∷ rest)
bad_begins own number id session lines part mids begun refused rest false e = rw (add-zero mids, e) refl
bad_begins own number id session lines part mids begun (Some n) rest true e = rw (add-zero mids, e) refl
bad_begins own number id session lines part mids begun None rest true e = rw (add-zero mids, e) refl

-- ---- a line inside of a part
-- an attribute of the session part
put_in_session : (number : ℕ) (id : Option ℕ) (session : Part) (lines : List MediaLine) (a : Attribute) (rest : List Item)
    → judged (refused_from Session (next_number number) rest) (sdp_made (id_with id rest) (joined (put_attribute session a) (part_said (attributes false rest))) (lines ++ lines_of rest))
    ≡ judged (refused_from Session (next_number number) rest) (sdp_made (id_with id rest) (joined session (part_said (a ∷ attributes false rest))) (lines ++ lines_of rest))
put_in_session number id session lines a rest =
    ap (λ (said : Part). judged (refused_from Session (next_number number) rest) (sdp_made (id_with id rest) said (lines ++ lines_of rest))) (joined_put session a (attributes false rest))

-- what a line part with so many `mid` lines answers
abbrev answer_of : ℕ → ℕ → Option ℕ → Sdp → Result Sdp ℕ
answer_of mids begun refused sdp = cond (nat_eq mids 1) (judged refused sdp) (Err begun)

counted : (item : Item) (rest : List Item) (mids begun : ℕ) (refused : Option ℕ) (sdp : Sdp) → answer_of (cond (is_mid_line item) (next_number mids) mids + mid_lines rest) begun refused sdp ≡ answer_of (mids + length (filter is_mid_line (item ∷ inner rest))) begun refused sdp
counted item rest mids begun refused sdp = ap (λ (b : Bool). cond b (judged refused sdp) (Err begun)) (one_more item (inner rest) mids)

-- an attribute of a line part
put_in_line : (item : Item) (own : MediaHead) (id : Option ℕ) (session : Part) (lines : List MediaLine) (part : Part) (mids begun : ℕ) (refused : Option ℕ) (a : Attribute) (rest : List Item)
    → answer_of (cond (is_mid_line item) (next_number mids) mids + mid_lines rest) begun refused (sdp_made (id_with id rest) session (lines ++ cons_option (line_of own (joined (put_attribute part a) (part_said (attributes true rest)))) (lines_of rest)))
    ≡ answer_of (mids + length (filter is_mid_line (item ∷ inner rest))) begun refused (sdp_made (id_with id rest) session (lines ++ cons_option (line_of own (joined part (part_said (a ∷ attributes true rest)))) (lines_of rest)))
put_in_line item own id session lines part mids begun refused a rest =
    counted item rest mids begun refused (sdp_made (id_with id rest) session (lines ++ cons_option (line_of own (joined (put_attribute part a) (part_said (attributes true rest)))) (lines_of rest)))
    ∙ ap (λ (said : Part). answer_of (mids + length (filter is_mid_line (item ∷ inner rest))) begun refused (sdp_made (id_with id rest) session (lines ++ cons_option (line_of own said) (lines_of rest)))) (joined_put part a (attributes true rest))

-- a malformed one
refused_in_line : (item : Item) (number : ℕ) (mids begun : ℕ) (refused : Option ℕ) (rest : List Item) (sdp : Sdp)
    → answer_of (cond (is_mid_line item) (next_number mids) mids + mid_lines rest) begun (option_or (option_or refused (Some number)) (refused_from Line number rest)) sdp
    ≡ answer_of (mids + length (filter is_mid_line (item ∷ inner rest))) begun (option_or refused (Some number)) sdp
refused_in_line item number mids begun refused rest sdp =
    counted item rest mids begun (option_or (option_or refused (Some number)) (refused_from Line number rest)) sdp
    ∙ ap (λ (which : Option ℕ). answer_of (mids + length (filter is_mid_line (item ∷ inner rest))) begun which sdp) (or_assoc refused (Some number) (refused_from Line number rest))

-- ---- a step, and then the rest
pub step_law : (r : Reader) (item : Item) (rest : List Item) → after (step r item) rest ≡ resume r (item ∷ rest)
unfolding resume
step_law r item rest = go r.stage r.number r.id r.session r.lines r.part r.mids r.begun r.refused item
  where
    go : (stage : Stage) (number : ℕ) (id : Option ℕ) (session : Part) (lines : List MediaLine) (part : Part) (mids begun : ℕ) (refused : Option ℕ) (item : Item)
        → after (step (state stage number id session lines part mids begun refused) item) rest ≡ resume_at stage number id session lines part mids begun refused (item ∷ rest)
    go AwaitVersion number id session lines part mids begun refused Blank = refl
    go AwaitVersion number id session lines part mids begun refused Bad = refl
    go AwaitVersion number id session lines part mids begun refused BadMedia = refl
    go AwaitVersion number id session lines part mids begun refused Skipped = refl
    go AwaitVersion number id session lines part mids begun refused Version = refl
    go AwaitVersion number id session lines part mids begun refused (Origin n) = refl
    go AwaitVersion number id session lines part mids begun refused (Media head) = refl
    go AwaitVersion number id session lines part mids begun refused (Says level a) = refl
    go AwaitVersion number id session lines part mids begun refused (Malformed level what) = refl
    go AwaitOrigin number id session lines part mids begun refused Blank = refl
    go AwaitOrigin number id session lines part mids begun refused Bad = refl
    go AwaitOrigin number id session lines part mids begun refused BadMedia = refl
    go AwaitOrigin number id session lines part mids begun refused Skipped = refl
    go AwaitOrigin number id session lines part mids begun refused Version = refl
    go AwaitOrigin number id session lines part mids begun refused (Origin n) = rw (or_assoc id (Some n) (first origin_of rest)) refl
    go AwaitOrigin number id session lines part mids begun refused (Media head) = refl
    go AwaitOrigin number id session lines part mids begun refused (Says level a) = refl
    go AwaitOrigin number id session lines part mids begun refused (Malformed level what) = refl
    go InSession number id session lines part mids begun refused Blank = refl
    go InSession number id session lines part mids begun refused Bad = refl
    go InSession number id session lines part mids begun refused BadMedia = refl
    go InSession number id session lines part mids begun refused Skipped = refl
    go InSession number id session lines part mids begun refused Version = refl
    go InSession number id session lines part mids begun refused (Origin n) = rw (or_assoc id (Some n) (first origin_of rest)) refl
    go InSession number id session lines part mids begun refused (Media head) = first_begins number id session lines part mids begun refused head rest
    go InSession number id session lines part mids begun refused (Says SessionLevel a) = put_in_session number id session lines a rest
    go InSession number id session lines part mids begun refused (Says MediaLevel a) = refl
    go InSession number id session lines part mids begun refused (Says AnyLevel a) = put_in_session number id session lines a rest
    go InSession number id session lines part mids begun refused (Malformed SessionLevel what) = refl
    go InSession number id session lines part mids begun refused (Malformed MediaLevel what) = refl
    go InSession number id session lines part mids begun refused (Malformed AnyLevel what) = refl
    go (InLine own) number id session lines part mids begun refused Blank = refl
    go (InLine own) number id session lines part mids begun refused Bad = rw (or_assoc refused (Some (next_number number)) (refused_from Line (next_number number) rest)) refl
    go (InLine own) number id session lines part mids begun refused BadMedia = bad_begins own number id session lines part mids begun refused rest (nat_eq mids 1) refl
    go (InLine own) number id session lines part mids begun refused Skipped = refl
    go (InLine own) number id session lines part mids begun refused Version = refl
    go (InLine own) number id session lines part mids begun refused (Origin n) = rw (or_assoc id (Some n) (first origin_of rest)) refl
    go (InLine own) number id session lines part mids begun refused (Media head) = next_begins own number id session lines part mids begun refused head rest (nat_eq mids 1) refl
    go (InLine own) number id session lines part mids begun refused (Says SessionLevel a) = counted (Says SessionLevel a) rest mids begun (option_or refused (refused_from Line (next_number number) rest)) (finished (InLine own) id session lines part rest)
    go (InLine own) number id session lines part mids begun refused (Says MediaLevel a) = put_in_line (Says MediaLevel a) own id session lines part mids begun (option_or refused (refused_from Line (next_number number) rest)) a rest
    go (InLine own) number id session lines part mids begun refused (Says AnyLevel a) = put_in_line (Says AnyLevel a) own id session lines part mids begun (option_or refused (refused_from Line (next_number number) rest)) a rest
    go (InLine own) number id session lines part mids begun refused (Malformed SessionLevel what) = counted (Malformed SessionLevel what) rest mids begun (option_or refused (refused_from Line (next_number number) rest)) (finished (InLine own) id session lines part rest)
    go (InLine own) number id session lines part mids begun refused (Malformed MediaLevel what) = refused_in_line (Malformed MediaLevel what) (next_number number) mids begun refused rest (finished (InLine own) id session lines part rest)
    go (InLine own) number id session lines part mids begun refused (Malformed AnyLevel what) = refused_in_line (Malformed AnyLevel what) (next_number number) mids begun refused rest (finished (InLine own) id session lines part rest)

-- ---- the end of the text
or_end : (id : Option ℕ) → option_or id None ≡ id
or_end None = refl
or_end (Some n) = refl

ended_law : (own : MediaHead) (number : ℕ) (id : Option ℕ) (session : Part) (lines : List MediaLine) (part : Part) (mids begun : ℕ) (refused : Option ℕ) (one : Bool) → nat_eq mids 1 ≡ one
    → finish (state (InLine own) number id session lines part mids begun refused) ≡ resume_at (InLine own) number id session lines part mids begun refused []
ended_law own number id session lines part mids begun refused false e = rw (add-zero mids, e) refl
ended_law own number id session lines part mids begun (Some n) true e = rw (add-zero mids, e) refl
ended_law own number id session lines part mids begun None true e =
    rw (add-zero mids, e)
    (ap (λ (said : Part). judged None (sdp_made id session (lines ++ cons_option (line_of own said) []))) (sym (joined_end part))
    ∙ ap (λ (o : Option ℕ). judged None (sdp_made o session (lines ++ cons_option (line_of own (joined part (part_said []))) []))) (sym (or_end id)))

ended_session : (id : Option ℕ) (session : Part) (lines : List MediaLine) → judged None (sdp_made id session lines) ≡ judged None (sdp_made (option_or id None) (joined session (part_said [])) (lines ++ []))
ended_session id session lines =
    ap (λ (said : Part). judged None (sdp_made id said lines)) (sym (joined_end session))
    ∙ ap (λ (o : Option ℕ). judged None (sdp_made o (joined session (part_said [])) lines)) (sym (or_end id))
    ∙ ap (λ (all : List MediaLine). judged None (sdp_made (option_or id None) (joined session (part_said [])) all)) (sym (append-nil lines))

pub finish_law : (r : Reader) → finish r ≡ resume r []
unfolding resume
finish_law r = go r.stage r.number r.id r.session r.lines r.part r.mids r.begun r.refused
  where
    go : (stage : Stage) (number : ℕ) (id : Option ℕ) (session : Part) (lines : List MediaLine) (part : Part) (mids begun : ℕ) (refused : Option ℕ)
        → finish (state stage number id session lines part mids begun refused) ≡ resume_at stage number id session lines part mids begun refused []
    go AwaitVersion number id session lines part mids begun refused = refl
    go AwaitOrigin number id session lines part mids begun refused = refl
    go InSession number id session lines part mids begun refused = ended_session id session lines
    go (InLine own) number id session lines part mids begun refused = ended_law own number id session lines part mids begun refused (nat_eq mids 1) refl

pub start_law : (items : List Item) → resume start items ≡ items_reading items
unfolding resume sdp_of
start_law items = refl

-- ---- the loop: the lines of what is left are still to be read
-- what the step at its first line answers leads to what was to come
pub stepped : (r : Reader) (item : Item) (text line behind : List ℕ) (total : Result Sdp ℕ) → lines text ≡ line ∷ lines behind → item ≡ item_of line
    → resume r (items_of text) ≡ total → after (step r item) (items_of behind) ≡ total
stepped r item text line behind total parted said h =
    let items : item ∷ items_of behind ≡ items_of text = ap (λ (i : Item). i ∷ items_of behind) said ∙ sym (ap (λ (ls : List (List ℕ)). map item_of ls) parted) in
    step_law r item (items_of behind) ∙ ap (resume r) items ∙ h

-- it gave a reader
pub goes_on : (r : Reader) (item : Item) (next_reader : Reader) (rest : List Item) (total : Result Sdp ℕ) → step r item ≡ Ok next_reader → after (step r item) rest ≡ total → resume next_reader rest ≡ total
goes_on r item next_reader rest total e h = ap (λ (s : Result Reader ℕ). after s rest) (sym e) ∙ h

-- it gave an error
pub stops : (r later : Reader) (item : Item) (error : SdpError) (rest : List Item) (total : Result Sdp ℕ) → StepsTo (Err error) later (step r item) → after (step r item) rest ≡ total → GivesReading {A = Sdp} (Err error) total
stops r later item (Parse n) rest total e h = sym h ∙ ap (λ (s : Result Reader ℕ). after s rest) e
stops r later item (Inconsistent why) rest total e h = absurd e
stops r later item Alloc rest total e h = tt

-- and `?` hands it on
pub handed : (out : Result Sdp SdpError) (error : SdpError) (total : Result Sdp ℕ) → IsErrAnd out (λ e. e ≡ error) → GivesReading {A = Sdp} (Err error) total → GivesReading out total
handed (Ok sdp) error total e h = absurd e
handed (Err other) error total e h = subst (λ (x : SdpError). GivesReading {A = Sdp} (Err x) total) (sym e) h

-- no line is left
pub done : (r : Reader) (text : List ℕ) (total : Result Sdp ℕ) → length text ≡ 0 → resume r (items_of text) ≡ total → finish r ≡ total
done r [] total e h = finish_law r ∙ h
done r (b ∷ bs) total e h = absurd (omega arith)
