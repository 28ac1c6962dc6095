-- What a line that was read asks, as a form.
use Rattle.std.specs.Prelude.{ℕ, ℤ, ◌==◌, ◌||◌, Bool, List, Option, Some, None, drop, length, map, option_map, pos, if◌then◌else◌}
use Rattle.std.specs.List.{before_first}
use denote.Ref.{Bor}
use Rattle.ecs_id.specs.declared.EntityId.{EntityId}
use Rattle.ecs_model.specs.declared.Kind.{Kind}
use Rattle.ecs_model.specs.Schema.{Field}
use Rattle.ecs_model.specs.Text.{is_blank, is_number, number_of, words}
use Rattle.ecs_model.specs.Orders.{EntityRef, by_handle, IdRef, MakeFresh, MakeEntity, AddTo, SetIn, RemoveFrom, DeleteOne}
use Rattle.ecs_model.specs.Script.{Form, LongLine, BadLine, CarryOut, Define, Ask, AskKept, entity_line, fact_line, form_or_bad, forms, looked_up, nothing_more, one_word, set_line, word_and_rest}
use Rattle.ecs_model.specs.Script
use Rattle.ecs_model.specs.stored.Session.{InWorld}
use Rattle.ecs_model.specs.stored.Session
use Rattle.script_line.specs.declared.Line.{Line}
use Rattle.script_line.specs.declared.Line.TheVariants.{Nothing, TooLong, Bad, New, Entity, Component, Add, Set, Remove, Delete, Show, Query, Store, Rows, Drop}
use Rattle.script_line.specs.declared.Opening.{Opening}
use Rattle.script_line.specs.declared.Opening.TheVariants as opening
use Rattle.script_line.specs.declared.Deed.{Deed}
use Rattle.script_line.specs.declared.Deed.TheVariants as deeds
use Rattle.script_line.specs.declared.Fact.{Fact}
use Rattle.ecs_model.specs.declared.references.Reference.{Reference}
use Rattle.ecs_model.specs.declared.references.IdReference.{IdReference}
use Rattle.ecs_model.specs.References.{seen_id, seen_reference}

-- a field that was read
abbrev pub seen_field : Bor (List ℕ) × Kind → Field
seen_field f = record { name = (f.0).now; kind = f.1 }

-- a handle that was read
abbrev pub seen_handle : EntityId → EntityRef
seen_handle e = by_handle e.index e.generation

-- a reference that was read, and what stands after it
abbrev pub seen_reference_and_rest : Reference × Bor (List ℕ) → EntityRef × List ℕ
seen_reference_and_rest p = (seen_reference p.0, (p.1).now)

-- an id that was read, and what stands after it
abbrev pub seen_id_and_rest : IdReference × Bor (List ℕ) → IdRef × List ℕ
seen_id_and_rest p = (seen_id p.0, (p.1).now)

-- a byte that stands in no reference
abbrev pub ends_reference : ℕ → Bool
ends_reference c = is_blank c || c == 40 || c == 41 || c == 44

-- 1 to 38 digits
abbrev pub unsigned_of_word : List ℕ → Option ℤ
unsigned_of_word w = if is_number 1 38 w then Some (pos (number_of w)) else None

-- a value that was read, and what stands after it
abbrev pub seen_value_and_rest : ℤ × Bor (List ℕ) → ℤ × List ℕ
seen_value_and_rest p = (p.0, (p.1).now)

-- what was read, if anything was, and what stands after it
abbrev pub followed_by : {A : Type 0} → List ℕ → Option A → Option (A × List ℕ)
followed_by rest read = option_map (λ x. (x, rest)) read

-- what f makes of the word with which a text begins, and what stands after the word
abbrev pub word_read : {A : Type 0} → (List ℕ → Option A) → List ℕ → Option (A × List ℕ)
word_read f bs = followed_by (drop (length (before_first is_blank bs)) bs) (f (before_first is_blank bs))

-- the form of a line that was read with these values
abbrev pub seen : {A : Type 0} → List ℤ → Line A → Form
seen values Nothing = Script.Nothing
seen values TooLong = LongLine
seen values Bad = BadLine
seen values New = CarryOut (InWorld MakeFresh)
seen values (Entity name) = CarryOut (InWorld (MakeEntity name.now))
seen values (Component name fields) = Define name.now (map seen_field fields.items)
seen values (Add entity id) = CarryOut (InWorld (AddTo (seen_reference entity) (seen_id id)))
seen values (Set entity id) = CarryOut (InWorld (SetIn (seen_reference entity) (seen_id id) values))
seen values (Remove entity id) = CarryOut (InWorld (RemoveFrom (seen_reference entity) (seen_id id)))
seen values (Delete entity) = CarryOut (InWorld (DeleteOne (seen_reference entity)))
seen values (Show entity) = Script.Show (seen_reference entity)
seen values (Query text) = Ask text.now
seen values (Store kind name text) = CarryOut (Session.Store kind name.now text.now)
seen values (Rows name) = AskKept name.now
seen values (Drop name) = CarryOut (Session.Drop name.now)

-- what a line of text asks by its first word, if it says anything
abbrev pub by_first_word : List ℕ → Form
by_first_word line = form_or_bad (λ f. f (word_and_rest line).1) (looked_up forms (word_and_rest line).0)

-- what a line asks by its first word, but for the four forms that most lines have
abbrev pub by_rarer_word : List ℕ → List ℕ → Form
by_rarer_word word rest = form_or_bad (λ f. f rest) (looked_up (drop 4 forms) word)

-- the form of a line whose first word was read
abbrev pub form_opened : Opening → Form
form_opened opening.Nothing = Script.Nothing
form_opened opening.TooLong = LongLine
form_opened opening.Bad = BadLine
form_opened (opening.Set rest) = fact_line set_line rest.now
form_opened (opening.Add rest) = fact_line (λ r i. nothing_more (CarryOut (InWorld (AddTo r i)))) rest.now
form_opened (opening.Remove rest) = fact_line (λ r i. nothing_more (CarryOut (InWorld (RemoveFrom r i)))) rest.now
form_opened (opening.Entity rest) = one_word (λ n. CarryOut (InWorld (MakeEntity n))) (words rest.now)
form_opened (opening.Rows rest) = one_word AskKept (words rest.now)
form_opened (opening.Delete rest) = entity_line (λ r. CarryOut (InWorld (DeleteOne r))) rest.now
form_opened opening.New = CarryOut (InWorld MakeFresh)
form_opened (opening.Other text) = by_first_word text.now

-- what a deed asks of an entity and an id, by the words after them
abbrev pub deed_words : Deed → EntityRef → IdRef → List (List ℕ) → Form
deed_words deeds.Set r i = set_line r i
deed_words deeds.Add r i = nothing_more (CarryOut (InWorld (AddTo r i)))
deed_words deeds.Remove r i = nothing_more (CarryOut (InWorld (RemoveFrom r i)))

-- what a line asks by what stands after the word of a deed
abbrev pub deed_line : Deed → List ℕ → Form
deed_line deed rest = fact_line (deed_words deed) rest

-- the form of a deed with these values
abbrev pub deed_form : Deed → EntityRef → IdRef → List ℤ → Form
deed_form deeds.Set r i values = CarryOut (InWorld (SetIn r i values))
deed_form deeds.Add r i values = CarryOut (InWorld (AddTo r i))
deed_form deeds.Remove r i values = CarryOut (InWorld (RemoveFrom r i))

-- the form of a fact that was read with these values
abbrev pub seen_deed : Deed → List ℤ → Fact → Form
seen_deed deed values fact = deed_form deed (seen_reference fact.entity) (seen_id fact.id) values
