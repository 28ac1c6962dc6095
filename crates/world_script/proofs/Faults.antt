-- What was written where a run ends by a fault.
use Rattle.std.proofs.Common.{◌≡◌, ℕ, ◌+◌, ◌==◌, false, inl, List, [], ◌∷◌, ◌++◌, length, take, Option, refl, sym, ◌∙◌, ap, subst, arith, append_assoc, append-nil, length-append}
use Rattle.std.specs.Io.KnownBytes.{Appends, Consumes, IsAtEnd, Keeps}
use Rattle.std.proofs.KnownBytes.{Appends-nil, Appends-trans, Consumes-kept, Consumes-nil, Consumes-trans}
use Rattle.std.proofs.lemmas.List.Elements.{All-nil}
use Rattle.std.proofs.lemmas.Grind.{flat_map-append}
use Rattle.std.proofs.lemmas.List.{take-append-le}
use Rattle.std.proofs.Math.Seq.{take-append-add}
use Rattle.ecs_model.specs.Output.{effects_of, output_of}
use Rattle.ecs_model.specs.stored.Session.{SessionState}
use Rattle.script_streams.specs.Lines.{Held, most_bytes}
use Rattle.script_streams.specs.Streams.{TakesFront}
use Rattle.world_script.specs.declared.lines.Summary.{Summary}
use Rattle.world_script.specs.Run.{effects_from, printed_by}
use Rattle.world_script.specs.Running.{HasEnded, IsRunning}
use Rattle.world_script.specs.Whole.{WroteFront, WroteFull, WroteToEnd, WroteWhole}
use Rattle.world_script.proofs.KeptLines.{EndsInFeed-more, cut}
use Rattle.world_script.proofs.RunSteps.{all_taken}

-- nothing more was taken
pub TakesFront-none : (a : Option (List ℕ)) (bytes : List ℕ) → TakesFront a a bytes
TakesFront-none a bytes = (0, omega arith, Appends-nil a)

-- a prefix after what was taken
TakesFront-behind : (a b c : Option (List ℕ)) (first bytes : List ℕ) → Appends a b first → TakesFront b c bytes → TakesFront a c (first ++ bytes)
TakesFront-behind a b c first bytes all front =
    let n = front.0 in (
      length first + n,
      omega (arith, front.1, length-append first bytes),
      subst (Appends a c) (sym (take-append-add first bytes n)) (Appends-trans a b c first (take n bytes) all front.2),
    )

-- a prefix of some bytes is one of more
TakesFront-more : (a b : Option (List ℕ)) (bytes more : List ℕ) → TakesFront a b bytes → TakesFront a b (bytes ++ more)
TakesFront-more a b bytes more front =
    (front.0, omega (arith, front.1, length-append bytes more), subst (Appends a b) (sym (take-append-le front.0 bytes more front.1)) front.2)

-- a prefix of the output was written at last
pub WroteFront-at : (told left old new newer : Option (List ℕ)) (h : Held) (s : SessionState) (a : Summary) (output : List ℕ) → IsRunning told left old new h s a output
    → TakesFront new newer output → WroteFront told left old newer
WroteFront-at told left old new newer h s a output so front =
    let c = cut (so.part ++ h.unread) in
    let more = printed_by (effects_from s (a.lines + 1) c.whole) in
    let bytes : so.whole ++ so.part ++ h.unread ≡ (so.whole ++ c.whole) ++ c.part = append_assoc so.whole so.part h.unread ∙ ap (λ l. so.whole ++ l) c.is ∙ sym (append_assoc so.whole c.whole c.part) in
    let printed : (so.written ++ output) ++ more ≡ output_of (so.whole ++ c.whole) =
    ap (λ l. l ++ more) so.has_run.printed_is ∙ sym (flat_map-append (λ e. e.printed) (effects_of so.whole) (effects_from s (a.lines + 1) c.whole))
    ∙ ap printed_by (sym (so.goes_on c.whole)) in (
      so.whole ++ c.whole,
      c.part,
      record { bytes = subst (Consumes told left) bytes so.bytes; ends = EndsInFeed-more so.whole c.whole so.ends c.ends; inside = c.inside },
      subst (TakesFront old newer) printed (TakesFront-more old newer (so.written ++ output) more (TakesFront-behind old new newer so.written output so.wrote front)),
    )

-- the output of the whole lines was written
written_all : (told left old new : Option (List ℕ)) (h : Held) (s : SessionState) (a : Summary) (output : List ℕ) (so : IsRunning told left old new h s a output) → output ≡ []
    → Appends old new (output_of so.whole)
written_all told left old new h s a output so none =
    subst (Appends old new) (sym (append-nil so.written) ∙ ap (λ l. so.written ++ l) (sym none) ∙ so.has_run.printed_is) so.wrote

-- a read failed
pub WroteWhole-at : (told left later old new : Option (List ℕ)) (h : Held) (s : SessionState) (a : Summary) (output : List ℕ) → h.unread ≡ [] → output ≡ [] → Keeps left later
    → IsRunning told left old new h s a output → WroteWhole told later old new
WroteWhole-at told left later old new h s a output taken none kept so =
    let bytes = subst (Consumes told left) (all_taken told left old new h s a output so taken) so.bytes in (
      so.whole,
      so.part,
      record { bytes = Consumes-kept told left later (so.whole ++ so.part) bytes kept; ends = so.ends; inside = so.inside },
      written_all told left old new h s a output so none,
    )

-- one byte more came than a script may have
pub WroteFull-at : (told left later old new : Option (List ℕ)) (h : Held) (s : SessionState) (a : Summary) (output : List ℕ) → h.unread ≡ [] → output ≡ [] → h.read ≡ most_bytes
    → ((byte : ℕ) × Consumes left later (byte ∷ [])) → IsRunning told left old new h s a output → WroteFull told later old new
WroteFull-at told left later old new h s a output taken none full came so =
    let all = all_taken told left old new h s a output so taken in
    let bytes = subst (Consumes told left) all so.bytes in (
      so.whole,
      so.part,
      came.0,
      Consumes-trans told left later (so.whole ++ so.part) (came.0 ∷ []) bytes came.1,
      sym (ap length all) ∙ sym so.counted ∙ full,
      so.ends,
      so.inside,
      written_all told left old new h s a output so none,
    )

-- a prefix of the output was written at the end
pub WroteToEnd-at : (told left old new newer : Option (List ℕ)) (a : Summary) (output : List ℕ) → IsAtEnd left → HasEnded told left old new a output → TakesFront new newer output
    → WroteToEnd told left old newer
WroteToEnd-at told left old new newer a output end so front =
    (so.script, so.bytes, end, subst (TakesFront old newer) so.has_run.printed_is (TakesFront-behind old new newer so.written output so.wrote front))

-- nothing was read or written
pub WroteFront-none : (told old : Option (List ℕ)) → WroteFront told told old old
WroteFront-none told old =
    ([], [], record { bytes = Consumes-nil told; ends = inl refl; inside = All-nil (λ x. (x == 10) ≡ false) }, TakesFront-none old (output_of []))
