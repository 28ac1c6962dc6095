-- What lines do, by what the session answered and what was printed of it.
use Rattle.std.proofs.Common.{◌≡◌, ℕ, ℤ, Bool, false, List, [], ◌++◌, Option, None, Some, Result, Ok, Err, refl, sym, ◌∙◌, ap, subst, append-nil}
use Rattle.std.specs.Prelude.{IfOk, codes, flat_map, is_some, if◌then◌else◌}
use Rattle.std.specs.Result.{result_map_both}
use Rattle.std.specs.declared.alloc.AllocError.{AllocError}
use Rattle.std.proofs.lemmas.Result.{IfOk-weaker}
use Rattle.ecs_id.specs.declared.EntityId.{EntityId}
use Rattle.ecs_id.specs.Id.{Id}
use Rattle.query_model.specs.declared.faults.Fault.{Fault}
use Rattle.query_model.specs.Query.{Query}
use Rattle.ecs_model.specs.declared.faults.Refusal.{Refusal}
use Rattle.ecs_model.specs.declared.faults.SchemaFault.{SchemaFault}
use Rattle.ecs_model.specs.declared.faults.SessionRefusal.{SessionRefusal}
use Rattle.ecs_model.specs.declared.faults.SessionRefusal.TheVariants.{EventsPending, OfWorld}
use Rattle.ecs_model.specs.declared.watches.StoredKind.{StoredKind}
use Rattle.ecs_model.specs.Schema.{Schema, schema_fault}
use Rattle.ecs_model.specs.Refusal.{refusal_text, schema_fault_text}
use Rattle.ecs_model.specs.Print.{fault_text}
use Rattle.ecs_model.specs.steps.Step.{Command, Fresh, Entity, Component, Add, SetValue, Remove, Delete}
use Rattle.ecs_model.specs.Orders.{EntityRef, IdRef, WorldOrder, MakeFresh, MakeEntity, MakeComponent, AddTo, SetIn, RemoveFrom, DeleteOne, command_of, entity_found}
use Rattle.ecs_model.specs.Query.{query_of}
use Rattle.ecs_model.specs.rows.Text.{rows_text}
use Rattle.ecs_model.specs.Script.{Form, Nothing, LongLine, BadLine, CarryOut, Define, Show, Ask, AskKept}
use Rattle.ecs_model.specs.Output.{effect_of, own_text, order_effect, define_effect, show_effect, ask_effect, kept_effect, refused_line, show_text}
use Rattle.ecs_model.specs.stored.Session.{Answer, Drop, InWorld, SessionOrder, SessionState, Store, apply, events, free_order, in_world, kept_query}
use Rattle.ecs_model.specs.stored.Refusal.{session_refusal_text}
use Rattle.ecs_model.specs.stored.Watches.{event_text}
use Rattle.ecs_world.specs.Standing.{Standing as World}
use Rattle.ecs_observe.specs.Answers.{AnswersApply, AnswersRows, born, carried_out, none_born}
use Rattle.ecs_observe.specs.Standing.{Standing, session_of}
use Rattle.ecs_observe.specs.declared.errors.SessionError.{SessionError}
use Rattle.ecs_observe.specs.declared.errors.SessionError.TheVariants.{Refused, Memory}
use Rattle.script_line.specs.declared.Deed.{Deed}
use Rattle.script_line.specs.declared.Deed.TheVariants as deed
use Rattle.script_line.specs.Line.{deed_form}
use Rattle.world_script.specs.Run.{IsDone}
use Rattle.ecs_observe.specs.Commands.{FindsBoth}
use Rattle.world_script.specs.Told.{TellsAccepted, TellsRefusal, TellsError, TellsAnswer, TellsBorn}
use Rattle.world_script.proofs.WaitingEvents.{waits-none}

-- a line that was refused
pub IsDone-refused : (s : SessionState) (n : ℕ) (kind before after : List ℕ) (refused : Bool) → TellsRefusal n kind before after refused → IsDone (refused_line s n kind) s before after refused
IsDone-refused s n kind before after refused told = record { session_left = refl; printed = told.0; answered = told.1 }

-- what says nothing prints nothing
abbrev pub IsSilent : SessionOrder → Type 0
IsSilent order = (born : Option EntityId) → own_text order born ≡ []

-- ---- what a command of the world is for a session

-- an order that means a command of the world
apply-command : (s : SessionState) (order : WorldOrder) (c : Command) → command_of s.world order ≡ Ok c → carried_out s c ≡ apply s (InWorld order)
unfolding apply free_order
apply-command s order c e = ap (λ r. if is_some s.waiting then Err EventsPending else in_world s r) (sym e)

-- one whose references are refused, while no events wait
apply-unfound : (s : SessionState) (order : WorldOrder) (reason : Refusal) → s.waiting ≡ None → command_of s.world order ≡ Err reason → apply s (InWorld order) ≡ Err (OfWorld reason)
unfolding apply free_order
apply-unfound s order reason none e = ap (λ o. if is_some o then Err EventsPending else in_world s (command_of s.world order)) none ∙ ap (in_world s) e

-- in the world of a session
command_in : (s : Standing) (w : World) (order : WorldOrder) → w ≡ s.world → command_of (session_of s).world order ≡ command_of w.state order
unfolding session_of
command_in s w order same = ap (λ v. command_of v.state order) (sym same)

-- ---- lines of commands

module _ (old mid new : Standing) (n : ℕ) (order : SessionOrder) (before after : List ℕ) (refused : Bool) where
  abbrev Does : Answer → Type 0
  Does applied = IsDone (order_effect (session_of old) n order applied) (session_of new) before after refused

  -- a command that was accepted
  IsDone-accepted : (own : List ℕ) (born : Option EntityId) (applied : Answer) → own ≡ own_text order born → applied ≡ Ok (session_of mid, born)
      → TellsAccepted own (session_of mid) (session_of new) before after refused → Does applied
  IsDone-accepted own born applied same answered told =
      subst Does (sym answered) (record {
        session_left = told.session_left;
        printed = told.printed ∙ ap (λ t. before ++ (t ++ flat_map event_text (events (session_of mid)))) same;
        answered = told.answered;
      })

  -- one that was refused
  IsDone-error : (error : SessionError) (applied : Answer) → AnswersApply (Err error) applied old mid → TellsAnswer {T = Option EntityId} (Err error) n (session_of mid) (session_of new) before after refused
      → Does applied
  IsDone-error (Refused reason) applied answered told =
      subst Does (sym answered.0) (record { session_left = told.1 ∙ answered.1; printed = (told.0).0; answered = (told.0).1 })
  IsDone-error Memory applied answered told = absurd told.0

  IsDone-answered : IsSilent order → (answer : Result (Option EntityId) SessionError) (applied : Answer) → AnswersApply answer applied old mid
      → TellsAnswer answer n (session_of mid) (session_of new) before after refused → Does applied
  IsDone-answered silent (Ok born) applied answered told = IsDone-accepted [] born applied (sym (silent born)) answered told
  IsDone-answered silent (Err error) applied answered told = IsDone-error error applied answered told

-- a new entity without a name
IsDone-born : (old mid new : Standing) (n : ℕ) (before after : List ℕ) (refused : Bool) (answer : Result (Option EntityId) SessionError) (applied : Answer) → AnswersApply answer applied old mid
    → TellsBorn answer n (session_of mid) (session_of new) before after refused
    → IsDone (order_effect (session_of old) n (InWorld MakeFresh) applied) (session_of new) before after refused
IsDone-born old mid new n before after refused (Ok born) applied answered told = IsDone-accepted old mid new n (InWorld MakeFresh) before after refused _ born applied refl answered told
IsDone-born old mid new n before after refused (Err error) applied answered told = IsDone-error old mid new n (InWorld MakeFresh) before after refused error applied answered told

-- what is printed is the same whether the created entity is answered or not
pub tells_born : (r : Result Bool AllocError) (answer : Result EntityId SessionError) (n : ℕ) (s t : SessionState) (before after : List ℕ) → IfOk r (TellsAnswer answer n s t before after)
    → IfOk r (TellsAnswer (born answer) n s t before after)
tells_born r (Ok entity) n s t before after told = told
tells_born r (Err error) n s t before after told = told

pub tells_done : {T : Type 0} (r : Result Bool AllocError) (answer : Result T SessionError) (n : ℕ) (s t : SessionState) (before after : List ℕ) → IfOk r (TellsAnswer answer n s t before after)
    → IfOk r (TellsAnswer (none_born answer) n s t before after)
tells_done r (Ok x) n s t before after told = told
tells_done r (Err error) n s t before after told = told

-- the command of a line that names an entity to be deleted
abbrev asked_to_delete : Result EntityId Refusal → Result Command Refusal
asked_to_delete = result_map_both Delete (λ reason. reason)

-- where memory may be refused
module _ (r : Result Bool AllocError) (old mid new : Standing) (n : ℕ) (before after : List ℕ) (answer : Result (Option EntityId) SessionError) where
  abbrev Tells : Type 0
  Tells = IfOk r (TellsAnswer answer n (session_of mid) (session_of new) before after)

  abbrev Obeys : SessionOrder → Type 0
  Obeys order = IfOk r (IsDone (effect_of (session_of old) n (CarryOut order)) (session_of new) before after)

  pub IfOk-new : AnswersApply answer (carried_out (session_of old) Fresh) old mid → IfOk r (TellsBorn answer n (session_of mid) (session_of new) before after) → Obeys (InWorld MakeFresh)
  unfolding effect_of command_of
  IfOk-new answered =
      let P : Answer → Type 0 = λ a. AnswersApply answer a old mid in
      IfOk-weaker r _ _ (λ refused told. IsDone-born old mid new n before after refused answer _ (subst P (apply-command (session_of old) MakeFresh Fresh refl) answered) told)

  IfOk-order : (order : SessionOrder) → IsSilent order → AnswersApply answer (apply (session_of old) order) old mid → Tells → Obeys order
  unfolding effect_of
  IfOk-order order silent answered = IfOk-weaker r _ _ (λ refused told. IsDone-answered old mid new n order before after refused silent answer _ answered told)

  pub IfOk-store : (kind : StoredKind) (name text : List ℕ) → AnswersApply answer (apply (session_of old) (Store kind name text)) old mid → Tells → Obeys (Store kind name text)
  IfOk-store kind name text = IfOk-order (Store kind name text) (λ _. refl)

  pub IfOk-drop : (name : List ℕ) → AnswersApply answer (apply (session_of old) (Drop name)) old mid → Tells → Obeys (Drop name)
  IfOk-drop name = IfOk-order (Drop name) (λ _. refl)

  -- a command of the world
  IfOk-command : (w : World) (order : WorldOrder) (c : Command) → w ≡ old.world → IsSilent (InWorld order) → command_of w.state order ≡ Ok c
      → AnswersApply answer (carried_out (session_of old) c) old mid → Tells → Obeys (InWorld order)
  IfOk-command w order c same silent e answered =
      let P : Answer → Type 0 = λ a. AnswersApply answer a old mid in
      IfOk-order (InWorld order) silent (subst P (apply-command (session_of old) order c (command_in old w order same ∙ e)) answered)

  pub IfOk-entity : (name : List ℕ) → AnswersApply answer (carried_out (session_of old) (Entity name)) old mid → Tells → Obeys (InWorld (MakeEntity name))
  unfolding command_of
  IfOk-entity name = IfOk-command old.world (MakeEntity name) (Entity name) refl (λ _. refl) refl

  -- a command of an entity and an id
  pub IfOk-add : (w : World) (entity : EntityRef) (id : IdRef) (both : EntityId × Id) → w ≡ old.world → FindsBoth w.state entity id (Ok both)
      → AnswersApply answer (carried_out (session_of old) (Add both.0 both.1)) old mid → Tells → Obeys (InWorld (AddTo entity id))
  unfolding command_of
  IfOk-add w entity id both same finds = IfOk-command w (AddTo entity id) (Add both.0 both.1) same (λ _. refl) (finds Add)

  pub IfOk-set : (w : World) (entity : EntityRef) (id : IdRef) (values : List ℤ) (both : EntityId × Id) → w ≡ old.world → FindsBoth w.state entity id (Ok both)
      → AnswersApply answer (carried_out (session_of old) (SetValue both.0 both.1 values)) old mid → Tells → Obeys (InWorld (SetIn entity id values))
  unfolding command_of
  IfOk-set w entity id values both same finds = IfOk-command w (SetIn entity id values) (SetValue both.0 both.1 values) same (λ _. refl) (finds (λ e i. SetValue e i values))

  pub IfOk-remove : (w : World) (entity : EntityRef) (id : IdRef) (both : EntityId × Id) → w ≡ old.world → FindsBoth w.state entity id (Ok both)
      → AnswersApply answer (carried_out (session_of old) (Remove both.0 both.1)) old mid → Tells → Obeys (InWorld (RemoveFrom entity id))
  unfolding command_of
  IfOk-remove w entity id both same finds = IfOk-command w (RemoveFrom entity id) (Remove both.0 both.1) same (λ _. refl) (finds Remove)

  -- an entity that goes
  pub IfOk-delete : (w : World) (entity : EntityRef) (e : EntityId) → w ≡ old.world → entity_found w.state entity ≡ Ok e → AnswersApply answer (carried_out (session_of old) (Delete e)) old mid → Tells
      → Obeys (InWorld (DeleteOne entity))
  unfolding command_of
  IfOk-delete w entity e same found = IfOk-command w (DeleteOne entity) (Delete e) same (λ _. refl) (ap asked_to_delete found)

  -- a component whose fields make a schema
  pub IfOk-component : (name : List ℕ) (fields : Schema) → schema_fault fields ≡ None → AnswersApply answer (carried_out (session_of old) (Component name fields)) old mid → Tells
      → IfOk r (IsDone (effect_of (session_of old) n (Define name fields)) (session_of new) before after)
  unfolding effect_of command_of
  IfOk-component name fields sound answered told =
      let P : Option SchemaFault → Type 0 = λ o. IfOk r (IsDone (define_effect (session_of old) n name fields o) (session_of new) before after) in
      subst P (sym sound) (IfOk-command old.world (MakeComponent name fields) (Component name fields) refl (λ _. refl) refl answered told)

-- ---- lines that leave the session

module _ (s : Standing) (n : ℕ) (before after : List ℕ) where
  abbrev Leaves : Form → Bool → Type 0
  Leaves form = IsDone (effect_of (session_of s) n form) (session_of s) before after

  -- an entity whose facts were shown
  pub IsDone-shown : (w : World) (r : EntityRef) (e : EntityId) → w ≡ s.world → entity_found w.state r ≡ Ok e → after ≡ before ++ show_text w.state e → Leaves (Show r) false
  unfolding effect_of session_of
  IsDone-shown w r e same found added =
      let P : Result EntityId Refusal → Type 0 = λ o. IsDone (show_effect (session_of s) n o) (session_of s) before after false in
      let shown = λ (v : World). before ++ show_text v.state e in
      subst P (sym found ∙ ap (λ v. entity_found v.state r) same) (record { session_left = refl; printed = added ∙ ap shown same; answered = refl })

  -- a query whose rows were added
  pub IsDone-rows : (w : World) (text : List ℕ) (q : Query) → w ≡ s.world → query_of w.state text ≡ Ok q → after ≡ before ++ rows_text w.state q → Leaves (Ask text) false
  unfolding effect_of session_of
  IsDone-rows w text q same asked added =
      let P : Result Query Fault → Type 0 = λ o. IsDone (ask_effect (session_of s) n o) (session_of s) before after false in
      let told = λ (v : World). before ++ rows_text v.state q in
      subst P (sym asked ∙ ap (λ v. query_of v.state text) same) (record { session_left = refl; printed = added ∙ ap told same; answered = refl })

  -- a kept query whose rows were added
  pub IsDone-kept : (name : List ℕ) (q : Query) → kept_query (session_of s) name ≡ Ok q → after ≡ before ++ rows_text (session_of s).world q → Leaves (AskKept name) false
  unfolding effect_of
  IsDone-kept name q kept added =
      let P : Result Query SessionRefusal → Type 0 = λ o. IsDone (kept_effect (session_of s) n o) (session_of s) before after false in
      subst P (sym kept) (record { session_left = refl; printed = added; answered = refl })

module _ (r : Result Bool AllocError) (s : Standing) (n : ℕ) (before after : List ℕ) where
  abbrev MayLeave : Form → Type 0
  MayLeave form = IfOk r (IsDone (effect_of (session_of s) n form) (session_of s) before after)

  -- an order whose references are refused
  IfOk-unfound : (w : World) (order : WorldOrder) (reason : Refusal) → s.waiting ≡ None → w ≡ s.world → command_of w.state order ≡ Err reason
      → IfOk r (TellsRefusal n (refusal_text reason) before after) → MayLeave (CarryOut (InWorld order))
  unfolding effect_of
  IfOk-unfound w order reason none same e = IfOk-weaker r _ _ (λ refused told.
      let P : Answer → Type 0 = λ a. IsDone (order_effect (session_of s) n (InWorld order) a) (session_of s) before after refused in
      subst P (sym (apply-unfound (session_of s) order reason (waits-none s none) (command_in s w order same ∙ e))) (IsDone-refused (session_of s) n (refusal_text reason) before after refused told))

  -- a deed whose references are
  pub IfOk-deed_unfound : (d : Deed) (w : World) (entity : EntityRef) (id : IdRef) (values : List ℤ) (reason : Refusal) → s.waiting ≡ None → w ≡ s.world → FindsBoth w.state entity id (Err reason)
      → IfOk r (TellsRefusal n (refusal_text reason) before after) → MayLeave (deed_form d entity id values)
  unfolding command_of
  IfOk-deed_unfound deed.Set w entity id values reason none same finds = IfOk-unfound w (SetIn entity id values) reason none same (finds (λ e i. SetValue e i values))
  IfOk-deed_unfound deed.Add w entity id values reason none same finds = IfOk-unfound w (AddTo entity id) reason none same (finds Add)
  IfOk-deed_unfound deed.Remove w entity id values reason none same finds = IfOk-unfound w (RemoveFrom entity id) reason none same (finds Remove)

  pub IfOk-delete_unfound : (w : World) (entity : EntityRef) (reason : Refusal) → s.waiting ≡ None → w ≡ s.world → entity_found w.state entity ≡ Err reason
      → IfOk r (TellsRefusal n (refusal_text reason) before after) → MayLeave (CarryOut (InWorld (DeleteOne entity)))
  unfolding command_of
  IfOk-delete_unfound w entity reason none same unfound = IfOk-unfound w (DeleteOne entity) reason none same (ap asked_to_delete unfound)

  -- a component whose fields make no schema
  pub IfOk-no_schema : (name : List ℕ) (fields : Schema) (f : SchemaFault) → schema_fault fields ≡ Some f → IfOk r (TellsRefusal n (schema_fault_text f) before after) → MayLeave (Define name fields)
  unfolding effect_of
  IfOk-no_schema name fields f faulty = IfOk-weaker r _ _ (λ refused told.
      let P : Option SchemaFault → Type 0 = λ o. IsDone (define_effect (session_of s) n name fields o) (session_of s) before after refused in
      subst P (sym faulty) (IsDone-refused (session_of s) n (schema_fault_text f) before after refused told))

  -- an entity to be shown whose reference is refused
  pub IfOk-unshown : (w : World) (entity : EntityRef) (reason : Refusal) → w ≡ s.world → entity_found w.state entity ≡ Err reason → IfOk r (TellsRefusal n (refusal_text reason) before after) → MayLeave (Show entity)
  unfolding effect_of session_of
  IfOk-unshown w entity reason same unfound = IfOk-weaker r _ _ (λ refused told.
      let P : Result EntityId Refusal → Type 0 = λ o. IsDone (show_effect (session_of s) n o) (session_of s) before after refused in
      subst P (sym unfound ∙ ap (λ v. entity_found v.state entity) same) (IsDone-refused (session_of s) n (refusal_text reason) before after refused told))

  -- a query that is refused
  pub IfOk-fault : (w : World) (text : List ℕ) (f : Fault) → w ≡ s.world → query_of w.state text ≡ Err f → IfOk r (TellsRefusal n (fault_text f) before after) → MayLeave (Ask text)
  unfolding effect_of session_of
  IfOk-fault w text f same asked = IfOk-weaker r _ _ (λ refused told.
      let P : Result Query Fault → Type 0 = λ o. IsDone (ask_effect (session_of s) n o) (session_of s) before after refused in
      subst P (sym asked ∙ ap (λ v. query_of v.state text) same) (IsDone-refused (session_of s) n (fault_text f) before after refused told))

  -- a kept query that isn't there, after nothing was written
  pub IfOk-unkept : (name mid : List ℕ) (error : SessionError) → AnswersRows {T = Unit {0}} (Err error) (session_of s) name before mid → IfOk r (TellsError error n mid after) → MayLeave (AskKept name)
  unfolding effect_of
  IfOk-unkept name mid (Refused reason) answered = IfOk-weaker r _ _ (λ refused told.
      let P : Result Query SessionRefusal → Type 0 = λ o. IsDone (kept_effect (session_of s) n o) (session_of s) before after refused in
      let Q : List ℕ → Type 0 = λ b. TellsRefusal n (session_refusal_text reason) b after refused in
      subst P (sym answered.0) (IsDone-refused (session_of s) n (session_refusal_text reason) before after refused (subst Q answered.1 told)))
  IfOk-unkept name mid Memory answered = IfOk-weaker r _ _ (λ refused told. absurd told)

-- a line that says nothing
pub IsDone-nothing : (s : SessionState) (n : ℕ) (before : List ℕ) → IsDone (effect_of s n Nothing) s before before false
unfolding effect_of
IsDone-nothing s n before = record { session_left = refl; printed = sym (append-nil before); answered = refl }

-- one that is too long, and one that fits no form
module _ (r : Result Bool AllocError) (s : SessionState) (n : ℕ) (before after : List ℕ) where
  pub IfOk-long : IfOk r (TellsRefusal n (codes "LineTooLong") before after) → IfOk r (IsDone (effect_of s n LongLine) s before after)
  unfolding effect_of
  IfOk-long = IfOk-weaker r _ _ (λ refused told. IsDone-refused s n (codes "LineTooLong") before after refused told)

  pub IfOk-bad : IfOk r (TellsRefusal n (codes "BadLine") before after) → IfOk r (IsDone (effect_of s n BadLine) s before after)
  unfolding effect_of
  IfOk-bad = IfOk-weaker r _ _ (λ refused told. IsDone-refused s n (codes "BadLine") before after refused told)
