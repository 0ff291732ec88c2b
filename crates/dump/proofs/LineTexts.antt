-- The lines of a script, piece by piece.
use Rattle.std.proofs.Common.{◌≡◌, refl, sym, ap, subst, ◌∙◌, ℕ, List, ◌∷◌, ◌++◌, append_assoc, Option}
use Rattle.std.specs.Prelude.{codes}
use Rattle.std.specs.Io.KnownBytes.{append_known}
use Rattle.db_model.specs.declared.commands.Command.TheVariants.{CreateRelation, CreateAttribute, CreateIndex, Insert}
use Rattle.db_model.specs.declared.schemas.DomainAsked.{DomainAsked}
use Rattle.db_model.specs.declared.schemas.IndexKind.{IndexKind}
use Rattle.db_model.specs.declared.values.Value.{Value}
use Rattle.db_model.specs.Grammar.{kind_word}
use Rattle.db_model.specs.Keywords.{keyword_text}
use Rattle.dump_model.specs.Script.{command_line, domain_text, values_text}
use Rattle.reply_text.proofs.Pieces.{append_known-twice, less_behind, less_front, less_third}
use Rattle.reply_text.specs.WroteLess.{WroteLess}

-- ---- a text of three parts

pub record Parts (all a b c : List ℕ) : Type 0 where
  pub whole : all ≡ a ++ b ++ c

pub wrote_parts : (h0 : Option (List ℕ)) {h1 h2 h3 : Option (List ℕ)} {a b c all : List ℕ} → Parts all a b c → h1 ≡ append_known h0 a → h2 ≡ append_known h1 b → h3 ≡ append_known h2 c → h3 ≡ append_known h0 all
wrote_parts h0 {h1} {h2} {h3} {a} {b} {c} {all} parts e f g =
    let two : h2 ≡ append_known h0 (a ++ b) = f ∙ ap (λ h. append_known h b) e ∙ append_known-twice h0 a b in
    g ∙ ap (λ h. append_known h c) two ∙ append_known-twice h0 (a ++ b) c ∙ ap (append_known h0) (sym parts.whole)

pub less_first : {h0 h1 : Option (List ℕ)} {a b c all : List ℕ} → Parts all a b c → WroteLess h0 h1 a → WroteLess h0 h1 all
less_first {h0} {h1} {a} {b} {c} {all} parts w = subst (WroteLess h0 h1) (sym parts.whole) (less_front h0 h1 (a ++ b) c (less_front h0 h1 a b w))

pub less_second : (h0 : Option (List ℕ)) {h1 h2 : Option (List ℕ)} {a b c all : List ℕ} → Parts all a b c → h1 ≡ append_known h0 a → WroteLess h1 h2 b → WroteLess h0 h2 all
less_second h0 {h1} {h2} {a} {b} {c} {all} parts e w = subst (WroteLess h0 h2) (sym parts.whole) (less_front h0 h2 (a ++ b) c (less_behind h0 h1 h2 a b e w))

pub less_last : (h0 : Option (List ℕ)) {h1 h2 h3 : Option (List ℕ)} {a b c all : List ℕ} → Parts all a b c → h1 ≡ append_known h0 a → h2 ≡ append_known h1 b → WroteLess h2 h3 c → WroteLess h0 h3 all
less_last h0 {h1} {h2} {h3} {a} {b} {c} {all} parts e f w = subst (WroteLess h0 h3) (sym parts.whole) (less_third h0 h1 h2 h3 a b c e f w)

-- ---- the lines

pub relation_line : (relation : List ℕ) → command_line (CreateRelation relation) ≡ codes "CREATE RELATION " ++ relation ++ codes ";\n"
unfolding command_line
relation_line relation = refl

pub attribute_line : (relation name : List ℕ) (domain : DomainAsked) → Parts (command_line (CreateAttribute name domain relation))
    (codes "CREATE ATTRIBUTE " ++ name ++ codes " DOMAIN ") (domain_text domain) (codes " IN " ++ relation ++ codes ";\n")
unfolding command_line
attribute_line relation name domain =
    let front = codes " IN " ++ relation in
    let behind = codes " IN " ++ relation ++ codes ";\n" in
    record {
      whole =
          ap (λ t. codes "CREATE ATTRIBUTE " ++ t)
          (append_assoc name (codes " DOMAIN " ++ (domain_text domain ++ front)) (codes ";\n")
          ∙ ap (λ t. name ++ (codes " DOMAIN " ++ t)) (append_assoc (domain_text domain) front (codes ";\n"))
          ∙ sym (append_assoc name (codes " DOMAIN ") (domain_text domain ++ behind))
          ∙ sym (append_assoc (name ++ codes " DOMAIN ") (domain_text domain) behind));
    }

pub row_line : (relation : List ℕ) (values : List Value) → Parts (command_line (Insert values relation))
    (codes "INSERT (") (values_text values) (codes ") INTO " ++ relation ++ codes ";\n")
unfolding command_line
row_line relation values =
    record {
      whole =
          ap (λ t. codes "INSERT (" ++ t)
          (ap (λ t. t ++ codes ";\n") (append_assoc (values_text values) (codes ")") (codes " INTO " ++ relation))
          ∙ append_assoc (values_text values) (codes ") INTO " ++ relation) (codes ";\n"));
    }

pub index_line : (relation attribute : List ℕ) (kind : IndexKind) → Parts (command_line (CreateIndex relation attribute kind))
    (codes "CREATE INDEX " ++ relation ++ codes ".") attribute (codes " TYPE " ++ keyword_text (kind_word kind) ++ codes ";\n")
unfolding command_line
index_line relation attribute kind =
    let front = codes " TYPE " ++ keyword_text (kind_word kind) in
    let behind = codes " TYPE " ++ keyword_text (kind_word kind) ++ codes ";\n" in
    record {
      whole =
          ap (λ t. codes "CREATE INDEX " ++ t)
          (ap (λ t. t ++ codes ";\n") (append_assoc relation (46 ∷ attribute) front)
          ∙ append_assoc relation (46 ∷ (attribute ++ front)) (codes ";\n")
          ∙ ap (λ t. relation ++ 46 ∷ t) (append_assoc attribute front (codes ";\n"))
          ∙ sym (append_assoc relation (codes ".") (attribute ++ behind))
          ∙ sym (append_assoc (relation ++ codes ".") attribute behind));
    }
