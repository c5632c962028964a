-- The rows that are told, one at a time.
use Rattle.std.proofs.Common.{◌≡◌, ◌∙◌, ℕ, suc, List, [], ◌∷◌, ◌++◌, ◌+◌, ◌<◌, drop, length, map, true, false, slice_index_or, Option, Some, None, refl, sym, ap, subst, append_assoc, arith}
use Rattle.rtc_change.specs.PendingOffer.{added_mids}
use Rattle.rtc_change.specs.declared.change.Change.{Change}
use Rattle.rtc_change.specs.declared.change.Change.TheVariants.{AddMedia, AddApp, AddChannel, Direction as SetDirection, IceRestart}
use Rattle.rtc_peer_core.specs.declared.formats.Formats.{Formats}
use Rattle.rtc_peer_core.specs.declared.told_row.ToldRow.{ToldRow}
use Rattle.rtc_sdp_values.specs.LineRow.{row_mid}
use Rattle.rtc_sdp_values.specs.declared.line_row.LineRow.{LineRow}
use Rattle.rtc_parts.specs.declared.media_update.MediaUpdate.{MediaUpdate}
use Rattle.rtc_peer_core.specs.declared.line_media.LineMedia.{LineMedia}
use Rattle.rtc_peer_core.specs.MadeSdp.{is_stopped, live_mids, row_told, media_told, updates_behind, told_rows, new_told, added_told}
use Rattle.rtc_peer_sdp.proofs.UpdateLemmas.{from_index}

-- what is at a place stands before the rest
pub here_next : {A : Type 0} (k : ℕ) (xs : List A) (x other : A) → k < length xs → x ≡ slice_index_or xs k other → drop k xs ≡ x ∷ drop (k + 1) xs
here_next {A} k xs x other within is =
    let next : suc k ≡ k + 1 = omega arith in
    subst (λ (n : ℕ). drop k xs ≡ x ∷ drop n xs) next (from_index k xs x other within is)

-- one line more
last_of : {A B : Type 0} (f : A → B) (xs : List A) (x : A) → map f (xs ++ x ∷ []) ≡ map f xs ++ f x ∷ []
last_of f [] x = refl
last_of {A} {B} f (y ∷ ys) x = ap (λ (more : List B). f y ∷ more) (last_of f ys x)

pub one_line : {A B : Type 0} (f : A → B) (done : List A) (x : A) (made more : List B) (y : B) → made ≡ map f done → y ≡ f x → more ≡ made ++ y ∷ []
    → more ≡ map f (done ++ x ∷ [])
one_line f done x made more y made_is y_is more_is = rw (more_is, made_is, y_is) (sym (last_of f done x))

-- a row that is stopped, and one that is not
pub stopped_row : (told : ToldRow) (left rest : List ToldRow) (done all : List (List ℕ)) → left ≡ told ∷ rest → is_stopped told.row ≡ true
    → done ++ live_mids (map row_told left) ≡ all → done ++ live_mids (map row_told rest) ≡ all
stopped_row told left rest done all here stopped h =
    let inv : done ++ live_mids (map row_told (told ∷ rest)) ≡ all =
    subst (λ (those : List ToldRow). done ++ live_mids (map row_told those) ≡ all) here h in
    rw stopped at inv

pub live_row : (told : ToldRow) (left rest : List ToldRow) (done more all : List (List ℕ)) → left ≡ told ∷ rest → is_stopped told.row ≡ false
    → more ≡ done ++ row_mid told.row ∷ [] → done ++ live_mids (map row_told left) ≡ all → more ++ live_mids (map row_told rest) ≡ all
live_row told left rest done more all here live more_is h =
    let inv : done ++ live_mids (map row_told (told ∷ rest)) ≡ all =
    subst (λ (those : List ToldRow). done ++ live_mids (map row_told those) ≡ all) here h in
    rw (more_is, append_assoc) (rw live at inv)

-- one row more, with what it carries
pub one_told : (formats : Formats) (line : List ℕ → Option MediaUpdate) (updates : List MediaUpdate) (row : LineRow) (left rows : List LineRow)
    (media : LineMedia) (done more all : List ToldRow) → left ≡ row ∷ rows → media ≡ media_told formats line updates row
    → more ≡ done ++ record { row = row; media = media } ∷ [] → done ++ told_rows formats line updates left ≡ all
    → more ++ told_rows formats line (updates_behind row updates) rows ≡ all
one_told formats line updates row left rows media done more all here media_is more_is h =
    let inv : done ++ told_rows formats line updates (row ∷ rows) ≡ all =
    subst (λ (those : List LineRow). done ++ told_rows formats line updates those ≡ all) here h in
    rw (more_is, media_is, append_assoc) inv

-- a change that adds no line
pub no_row_more : (formats : Formats) (place : ℕ) (change : Change) (left staged : List Change) (done all : List ToldRow)
    → left ≡ change ∷ staged → None ≡ new_told formats place change → done ++ added_told formats place left ≡ all
    → done ++ added_told formats place staged ≡ all
no_row_more formats place change left staged done all here none h =
    let inv : done ++ added_told formats place (change ∷ staged) ≡ all =
    subst (λ (changes : List Change). done ++ added_told formats place changes ≡ all) here h in
    rw (sym none, added_told) at inv

-- a change that adds one
pub one_row_more : (formats : Formats) (place : ℕ) (change : Change) (left staged : List Change) (row : ToldRow) (done more all : List ToldRow)
    → left ≡ change ∷ staged → Some row ≡ new_told formats place change → more ≡ done ++ row ∷ []
    → done ++ added_told formats place left ≡ all → more ++ added_told formats (place + 1) staged ≡ all
one_row_more formats place change left staged row done more all here one more_is h =
    let inv : done ++ added_told formats place (change ∷ staged) ≡ all =
    subst (λ (changes : List Change). done ++ added_told formats place changes ≡ all) here h in
    let inv2 : done ++ (row ∷ added_told formats (place + 1) staged) ≡ all = rw (sym one, added_told) at inv in
    rw (more_is, append_assoc) inv2

-- such a change has the mid of its line, and no other has one
fewer : (formats : Formats) (place : ℕ) (change : Change) (staged : List Change) → None ≡ new_told formats place change
    → added_mids (change ∷ staged) ≡ added_mids staged
fewer formats place (AddMedia media) staged none = absurd (cc)
fewer formats place (AddApp mid) staged none = absurd (cc)
fewer formats place (AddChannel id config) staged none = refl
fewer formats place (SetDirection mid dir) staged none = refl
fewer formats place (IceRestart creds keeps) staged none = refl

one_fewer : (formats : Formats) (place : ℕ) (change : Change) (staged : List Change) (row : ToldRow) → Some row ≡ new_told formats place change
    → length (added_mids (change ∷ staged)) ≡ suc (length (added_mids staged))
one_fewer formats place (AddMedia media) staged row one = refl
one_fewer formats place (AddApp mid) staged row one = refl
one_fewer formats place (AddChannel id config) staged row one = absurd (cc)
one_fewer formats place (SetDirection mid dir) staged row one = absurd (cc)
one_fewer formats place (IceRestart creds keeps) staged row one = absurd (cc)

pub no_mid_more : (formats : Formats) (place all : ℕ) (change : Change) (left staged : List Change) → left ≡ change ∷ staged
    → None ≡ new_told formats place change → place + length (added_mids left) ≡ all → place + length (added_mids staged) ≡ all
no_mid_more formats place all change left staged here none h =
    ap (λ (mids : List (List ℕ)). place + length mids) (sym (fewer formats place change staged none) ∙ ap added_mids (sym here)) ∙ h

pub one_mid_more : (formats : Formats) (place all : ℕ) (change : Change) (left staged : List Change) (row : ToldRow) → left ≡ change ∷ staged
    → Some row ≡ new_told formats place change → place + length (added_mids left) ≡ all
    → (place + 1) + length (added_mids staged) ≡ all
one_mid_more formats place all change left staged row here one h =
    let fewer_is : length (added_mids left) ≡ suc (length (added_mids staged)) =
    ap (λ (changes : List Change). length (added_mids changes)) here ∙ one_fewer formats place change staged row one in
    omega (arith, fewer_is, h)
