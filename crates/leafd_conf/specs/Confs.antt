-- What a configuration file says, or its first fault.
use Rattle.std.specs.Prelude.{ℕ, List, [], ◌∷◌, Bool, not, if◌then◌else◌, Option, None, Some, is_some, Result, Ok, Err, codes}
use Rattle.std.specs.Str.{is_utf8}
use Rattle.toml.specs.Data.{Members}
use Rattle.toml.specs.Parse.{parse_document}
use Rattle.leafd_conf.specs.declared.conf.Conf.{Conf}
use Rattle.leafd_conf.specs.declared.fault.ConfKind.TheVariants.{Syntax, Unknown, BadValue}
use Rattle.leafd_conf.specs.declared.fault.ConfProblem.{ConfProblem}
use Rattle.leafd_conf.specs.declared.fault.ConfProblem.TheVariants.{Bad}
use Rattle.leafd_conf.specs.declared.member.TextRule.TheVariants.{Any, Address}
use Rattle.leafd_conf.specs.Profile.{◌>>=◌, required, optional, first_other, name_in, text_in, mappings_in, optional_text_in}

-- the members that a configuration may have, in the order in which they are looked at
abbrev pub known_members : List (List ℕ)
known_members = codes "name" ∷ codes "store" ∷ codes "listen" ∷ codes "leaf_listen" ∷ codes "hub" ∷ codes "mappings" ∷ []

-- each member by its own kind, or the first fault in this order
abbrev pub fields_in : Members → Result Conf ConfProblem
fields_in members =
    required name_in (codes "name") members >>= (λ name.
    required (text_in Any) (codes "store") members >>= (λ store.
    required (text_in Address) (codes "listen") members >>= (λ listen.
    optional optional_text_in None (codes "leaf_listen") members >>= (λ leaf_listen.
    optional optional_text_in None (codes "hub") members >>= (λ hub.
    optional mappings_in [] (codes "mappings") members >>= (λ mappings.
    Ok (record { name = name; store = store; listen = listen; leaf_listen = leaf_listen; hub = hub; mappings = mappings })))))))

-- a node is a hub or a leaf, and not both
abbrev pub has_one_place : Conf → Bool
has_one_place conf = if is_some conf.leaf_listen then not (is_some conf.hub) else is_some conf.hub

abbrev pub in_one_place : Conf → Result Conf ConfProblem
in_one_place conf = if has_one_place conf then Ok conf else Err (Bad BadValue (codes "hub"))

-- no other member stands in the table, each is of its kind, and the node is a hub or a leaf
abbrev pub known_in : Option (List ℕ) → Members → Result Conf ConfProblem
known_in (Some other) ms = Err (Bad Unknown other)
known_in None ms = fields_in ms >>= in_one_place

abbrev pub conf_in : Members → Result Conf ConfProblem
conf_in members = known_in (first_other known_members members) members

-- the text is a TOML table of a configuration
abbrev pub conf_in_document : Option Members → Result Conf ConfProblem
conf_in_document None = Err (Bad Syntax [])
conf_in_document (Some members) = conf_in members

unfoldable pub conf_of : List ℕ → Result Conf ConfProblem
conf_of text = conf_in_document (if is_utf8 text then parse_document text else None)
