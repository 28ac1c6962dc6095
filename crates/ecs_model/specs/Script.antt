-- The lines of a script and their forms.
use Rattle.std.specs.Prelude.{ℕ, ◌==◌, Bool, true, false, not, ◌&&◌, ◌||◌, List, [], ◌∷◌, length, drop, ℤ, pos, neg_ℤ, nat_le, nat_lt, codes, bytes_eq, Option, Some, None, option_map, option_and_then, if◌then◌else◌}
use Rattle.std.specs.List.{list_any, find, slice_split, before_first, after_first}
use Rattle.std.specs.Str.{is_utf8}
use Rattle.ecs_model.specs.Text.{is_blank, trim_front, trimmed, words, is_number, number_of}
use Rattle.ecs_model.specs.declared.Kind.{Kind}
use Rattle.ecs_model.specs.declared.Kind.TheVariants.{I8, U8, I16, U16, I32, U32, I64, U64}
use Rattle.ecs_model.specs.Schema.{Field, Schema}
use Rattle.ecs_model.specs.Orders.{EntityRef, by_name, by_handle, IdRef, plain_of, pair_of, MakeFresh, MakeEntity, AddTo, SetIn, RemoveFrom, DeleteOne}
use Rattle.ecs_model.specs.declared.watches.StoredKind.{StoredKind}
use Rattle.ecs_model.specs.declared.watches.StoredKind.TheVariants.{Kept, Monitor, OnAdd, OnRemove, OnSet}
use Rattle.ecs_model.specs.stored.Session.{SessionOrder, InWorld, Store, Drop}

-- what a line asks
pub data Form : Type 0 where
  Nothing LongLine BadLine : Form
  CarryOut : SessionOrder → Form
  Define : List ℕ → Schema → Form
  Show : EntityRef → Form
  Ask : List ℕ → Form
  AskKept : List ℕ → Form

-- without the last part, if that is empty
abbrev pub without_empty_last : List (List ℕ) → List (List ℕ)
without_empty_last [] = []
without_empty_last ([] ∷ []) = []
without_empty_last (l ∷ ls) = l ∷ without_empty_last ls

-- the lines of a script: what stands between line feeds, and after the last one if it isn't empty
unfoldable pub lines_of : List ℕ → List (List ℕ)
lines_of script = without_empty_last (slice_split (λ b. b == 10) script)

-- the first word of a text, and what stands after it
abbrev pub word_and_rest : List ℕ → List ℕ × List ℕ
word_and_rest bs = (before_first is_blank (trim_front bs), drop (length (before_first is_blank (trim_front bs))) (trim_front bs))

-- a handle after its `#`: `index.generation`, of 1 to 9 digits, and of 1 to 5 that are at most 65535
abbrev pub handle_of : List ℕ → Option EntityRef
handle_of bs =
    let i = before_first (λ b. b == 46) bs in
    let g = after_first (λ b. b == 46) bs in
    if is_number 1 9 i && is_number 1 5 g && nat_le (number_of g) 65535 then Some (by_handle (number_of i) (number_of g)) else None

-- a reference to an entity: no blanks, brackets and commas, and a handle where it begins with `#`
abbrev pub reference_of : List ℕ → Option EntityRef
reference_of [] = None
reference_of (b ∷ bs) =
    if list_any (λ c. is_blank c || c == 40 || c == 41 || c == 44) (b ∷ bs) then None
    else if b == 35 then handle_of bs
    else Some (by_name (b ∷ bs))

-- a pair of references, if both are there
abbrev pub pair_ref : Option EntityRef → Option EntityRef → Option IdRef
pair_ref (Some r) (Some t) = Some (pair_of r t)
pair_ref _ _ = None

-- what stands between the brackets of a pair: two references with one `,` between
abbrev pub pair_in : List ℕ → Option IdRef
pair_in bs = pair_ref (reference_of (trimmed (before_first (λ b. b == 44) bs))) (reference_of (trimmed (after_first (λ b. b == 44) bs)))

-- whether a text is empty or begins with a blank
abbrev pub is_apart : List ℕ → Bool
is_apart [] = true
is_apart (b ∷ bs) = is_blank b

-- a pair after its `(`, and what stands after its `)`
abbrev pub pair_and_rest : List ℕ → Option (IdRef × List ℕ)
pair_and_rest bs =
    let rest = after_first (λ b. b == 41) bs in
    if list_any (λ b. b == 41) bs && is_apart rest then option_map (λ i. (i, rest)) (pair_in (before_first (λ b. b == 41) bs)) else None

-- an id at the beginning of a text without blanks there, and what stands after it
abbrev pub id_and_rest : List ℕ → Option (IdRef × List ℕ)
id_and_rest [] = None
id_and_rest (b ∷ bs) =
    if b == 40 then pair_and_rest bs
    else option_map (λ r. (plain_of r, (word_and_rest (b ∷ bs)).1)) (reference_of ((word_and_rest (b ∷ bs)).0))

-- an optional `-` and 1 to 38 digits
abbrev pub value_of_word : List ℕ → Option ℤ
value_of_word [] = None
value_of_word (b ∷ bs) =
    if b == 45 then (if is_number 1 38 bs then Some (neg_ℤ (pos (number_of bs))) else None)
    else if is_number 1 38 (b ∷ bs) then Some (pos (number_of (b ∷ bs))) else None

-- what f makes of each item, if it makes something of every one
abbrev pub all_of : {A B : Type 0} → (A → Option B) → List A → Option (List B)
all_of f [] = Some []
all_of f (x ∷ xs) = option_and_then (λ y. option_map (λ ys. y ∷ ys) (all_of f xs)) (f x)

-- how kinds are written
abbrev pub kind_words : List (List ℕ × Kind)
kind_words =
    (codes "i8", I8) ∷ (codes "u8", U8) ∷ (codes "i16", I16) ∷ (codes "u16", U16) ∷ (codes "i32", I32) ∷ (codes "u32", U32) ∷ (codes "i64", I64) ∷ (codes "u64", U64) ∷ []

-- what a table has under a word
abbrev pub looked_up : {A : Type 0} → List (List ℕ × A) → List ℕ → Option A
looked_up table w = option_map (λ e. e.1) (find (λ e. bytes_eq w e.0) table)

-- a name and a kind with one `:` between
abbrev pub field_of_word : List ℕ → Option Field
field_of_word bs =
    if list_any (λ b. b == 58) bs then
    option_map (λ k. record { name = before_first (λ b. b == 58) bs; kind = k }) (looked_up kind_words (after_first (λ b. b == 58) bs))
    else None

-- the form that f makes of a value, if there is one
abbrev pub form_or_bad : {A : Type 0} → (A → Form) → Option A → Form
form_or_bad f None = BadLine
form_or_bad f (Some x) = f x

-- a line of one word
abbrev pub one_word : (List ℕ → Form) → List (List ℕ) → Form
one_word f (w ∷ []) = f w
one_word f _ = BadLine

-- a line of an entity
abbrev pub entity_line : (EntityRef → Form) → List ℕ → Form
entity_line f rest = one_word (λ w. form_or_bad f (reference_of w)) (words rest)

-- a line of an entity, an id and the words after it
abbrev pub fact_line : (EntityRef → IdRef → List (List ℕ) → Form) → List ℕ → Form
fact_line f rest =
    let e = word_and_rest rest in
    form_or_bad (λ r. form_or_bad (λ i. f r i.0 (words i.1)) (id_and_rest (trim_front e.1))) (reference_of e.0)

-- a form after which no word stands
abbrev pub nothing_more : Form → List (List ℕ) → Form
nothing_more f [] = f
nothing_more f _ = BadLine

-- after the entity and the id of `set`: one or more values
abbrev pub set_line : EntityRef → IdRef → List (List ℕ) → Form
set_line r i [] = BadLine
set_line r i (v ∷ vs) = form_or_bad (λ values. CarryOut (InWorld (SetIn r i values))) (all_of value_of_word (v ∷ vs))

-- after `component`: a name and fields
abbrev pub component_line : List (List ℕ) → Form
component_line [] = BadLine
component_line (n ∷ fields) = form_or_bad (Define n) (all_of field_of_word fields)

-- a new stored query of this kind: a word for its name, and a text, which may be empty
abbrev pub named_text : StoredKind → List ℕ × List ℕ → Form
named_text kind ([], rest) = BadLine
named_text kind (n, rest) = CarryOut (Store kind n (trimmed rest))

abbrev pub store_line : StoredKind → List ℕ → Form
store_line kind rest = named_text kind (word_and_rest rest)

-- the events that are observed, as they are written
abbrev pub event_words : List (List ℕ × StoredKind)
event_words = (codes "add", OnAdd) ∷ (codes "remove", OnRemove) ∷ (codes "set", OnSet) ∷ []

-- after `on`: an event, and an observer of it
abbrev pub on_line : List ℕ → Form
on_line rest = let split = word_and_rest rest in form_or_bad (λ kind. store_line kind split.1) (looked_up event_words split.0)

-- the forms of lines, by their first word
unfoldable pub forms : List (List ℕ × (List ℕ → Form))
forms =
    (codes "entity", λ rest. one_word (λ n. CarryOut (InWorld (MakeEntity n))) (words rest))
    ∷ (codes "component", λ rest. component_line (words rest))
    ∷ (codes "add", fact_line (λ r i. nothing_more (CarryOut (InWorld (AddTo r i)))))
    ∷ (codes "set", fact_line set_line)
    ∷ (codes "query", λ rest. Ask (trimmed rest))
    ∷ (codes "new", λ rest. nothing_more (CarryOut (InWorld MakeFresh)) (words rest))
    ∷ (codes "remove", fact_line (λ r i. nothing_more (CarryOut (InWorld (RemoveFrom r i)))))
    ∷ (codes "show", entity_line Show)
    ∷ (codes "delete", entity_line (λ r. CarryOut (InWorld (DeleteOne r))))
    ∷ (codes "keep", store_line Kept)
    ∷ (codes "monitor", store_line Monitor)
    ∷ (codes "on", on_line)
    ∷ (codes "rows", λ rest. one_word AskKept (words rest))
    ∷ (codes "drop", λ rest. one_word (λ n. CarryOut (Drop n)) (words rest))
    ∷ []

-- whether a line is blank or a comment
abbrev pub says_nothing : List ℕ → Bool
says_nothing [] = true
says_nothing (b ∷ []) = false
says_nothing (b ∷ c ∷ bs) = b == 47 && c == 47

-- the form of a line, among these forms
unfoldable pub form_among : List (List ℕ × (List ℕ → Form)) → List ℕ → Form
form_among table line =
    let split = word_and_rest line in
    if nat_lt 4096 (length line) then LongLine
    else if says_nothing (trim_front line) then Nothing
    else if not (is_utf8 line) then BadLine
    else form_or_bad (λ f. f split.1) (looked_up table split.0)

-- the form of a line
abbrev pub form_of : List ℕ → Form
form_of = form_among forms
