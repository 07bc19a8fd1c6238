-- The entry point, and the method in which a started thread begins, have bodies, so the counts of their frames are there.
use Rattle.std.proofs.Common.{◌≡◌, ℕ, suc, ◌+◌, ◌≤◌, List, [], ◌∷◌, ◌++◌, length, map, Option, Some, refl, ap, ◌∙◌, arith}
use Rattle.std.specs.Prelude.{flat_map, slice_get, IsSome, option_to_list}
use Rattle.std.proofs.lemmas.List.{map-append}
use Rattle.il_model.specs.declared.program.Program.{Program}
use Rattle.il_model.specs.declared.method.Body.{Body}
use Rattle.il_model.specs.declared.method.MethodDef.{MethodDef}
use Rattle.il_model.specs.declared.written.WrittenBody.{WrittenBody}
use Rattle.il_model.specs.declared.written.WrittenMethod.{WrittenMethod}
use Rattle.il_model.specs.declared.written.WrittenClass.{WrittenClass}
use Rattle.il_model.specs.Bounds.{methods_of, all_methods}
use Rattle.il_model.specs.Names.{Each, end, both, Perhaps, neither, each}
use Rattle.il_model.specs.Library.{library_classes, library_methods, thread_entry}
use Rattle.il_model.specs.LookUp.{Known, Owned, NamesOwned, owned_from, known_of, has_entry, entries_from}
use Rattle.il_model.specs.Accepted.{IsOfText}
use Rattle.il_model.specs.Found.{method_at}
use Rattle.crossings.specs.Calls.{most_places}
use Rattle.rgctx_fill.proofs.TextLeaves.{got_right, owned_by}
use Rattle.rgctx_fill.specs.declared.image.FrameCount.{FrameCount}
use Rattle.rgctx_fill.specs.CallServices.{count_in}
use Rattle.rgctx_fill.specs.ThreadStates.{ImageData}
use Rattle.rgctx_fill.specs.Serving.{IsServable, IsCounted}
use Rattle.thread_core.specs.Starts.{entry_method}

abbrev written_of : Owned → WrittenMethod
written_of o = o.written

own_written : (owner : ℕ) (c : WrittenClass) (ms : List WrittenMethod) → map written_of (map (owned_by owner c) ms) ≡ ms
own_written owner c [] = refl
own_written owner c (m ∷ ms) = ap (λ rest. m ∷ rest) (own_written owner c ms)

all_written : (owner : ℕ) (cs : List WrittenClass) → map written_of (owned_from owner cs) ≡ all_methods cs
all_written owner [] = refl
all_written owner (c ∷ cs) =
    map-append written_of (map (owned_by owner c) (methods_of c.members)) (owned_from (owner + 1) cs)
    ∙ ap (λ front. front ++ map written_of (owned_from (owner + 1) cs)) (own_written owner c (methods_of c.members))
    ∙ ap (λ back. methods_of c.members ++ back) (all_written (owner + 1) cs)

-- a method in which an entry point is written has a body
has_body : {R : WrittenBody → Body → Type 0} (at : ℕ) (ats : List ℕ) (written : Option WrittenBody) (b : Option Body) → Perhaps R written b →
    flat_map (λ (w : WrittenBody). option_to_list w.entry) (option_to_list written) ≡ at ∷ ats → IsSome b
has_body at ats written b neither e = absurd (cc e)
has_body at ats written b (each w c is) e = refl

record MainFound (ds : List MethodDef) (first n : ℕ) : Type 0 where
  place : ℕ
  number : n ≡ first + place
  method : MethodDef
  is : slice_get ds place ≡ Some method
  body : IsSome method.body

main_found : (known : Known) (first : ℕ) (os : List Owned) (ds : List MethodDef) → Each (NamesOwned known) os ds → (n : ℕ) (rest : List ℕ) → entries_from first (map written_of os) ≡ n ∷ rest → MainFound ds first n
main_found known first os ds end n rest e = absurd (cc e)
main_found known first os ds (both o d us vs is are) n rest e = by_entry (λ e'. main_found known (first + 1) us vs are n rest e') (has_entry o.written) refl e
  where
    later : MainFound vs (first + 1) n → MainFound (d ∷ vs) first n
    later r = record { place = suc r.place; number = (let q : n ≡ first + 1 + r.place = r.number in omega (arith, q)); method = r.method; is = r.is; body = r.body }

    by_entry : (entries_from (first + 1) (map written_of us) ≡ n ∷ rest → MainFound vs (first + 1) n) → (ats : List ℕ) → has_entry o.written ≡ ats → map (λ (at : ℕ). first) ats ++ entries_from (first + 1) (map written_of us) ≡ n ∷ rest → MainFound (d ∷ vs) first n
    by_entry more' [] has e' = later (more' e')
    by_entry more' (at ∷ ats) has e' = record {
      place = 0;
      number = (let q : first ≡ n = cc e' in omega (arith, q));
      method = d;
      is = refl;
      body = has_body at ats o.written.body d.body is.body has;
    }

pub record IsBodied (p : Program) (number : ℕ) : Type 0 where
  pub method : MethodDef
  pub is : method_at p number ≡ Some method
  pub body : IsSome method.body

pub main-bodied : (p : Program) → IsOfText p → IsBodied p p.main
main-bodied p of =
    let known : Known = known_of of.classes in
    let os : List Owned = owned_from (length library_classes) of.classes in
    let ds : List MethodDef = of.accepted.named.own_methods in
    let e : entries_from (length library_methods) (map written_of os) ≡ p.main ∷ [] = ap (entries_from (length library_methods)) (all_written (length library_classes) of.classes) ∙ of.accepted.named.begins in
    let r : MainFound ds (length library_methods) p.main = main_found known (length library_methods) os ds of.accepted.named.named_methods p.main [] e in
    record {
      method = r.method;
      is = ap (λ ms. slice_get ms p.main) of.accepted.named.methods_are ∙ ap (slice_get (library_methods ++ ds)) r.number ∙ got_right library_methods ds r.place ∙ r.is;
      body = r.body;
    }

pub entry-bodied : (p : Program) → IsOfText p → IsBodied p entry_method
entry-bodied p of = record { method = thread_entry; is = ap (λ ms. slice_get ms entry_method) of.accepted.named.methods_are; body = refl }

-- the counts are within their limits
pub record AreLow (count : FrameCount) : Type 0 where
  pub places : count.places ≤ most_places
  pub list : count.list ≤ most_places

counts_low : (im : ImageData) → IsServable im → (number : ℕ) → IsBodied im.cat.program number → AreLow (count_in (slice_get im.frames number))
counts_low im s number b =
    let c : IsCounted b.method (count_in (slice_get im.frames number)) = s.counts number b.method b.is b.body in
    record { places = c.places; list = c.list }

pub main_counts : (im : ImageData) → IsServable im → AreLow (count_in (slice_get im.frames im.cat.program.main))
main_counts im s = counts_low im s im.cat.program.main (main-bodied im.cat.program s.catalogue.text)

pub entry_counts : (im : ImageData) → IsServable im → AreLow (count_in (slice_get im.frames entry_method))
entry_counts im s = counts_low im s entry_method (entry-bodied im.cat.program s.catalogue.text)
