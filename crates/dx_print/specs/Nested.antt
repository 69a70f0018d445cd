-- What the parts of an object are.
use Rattle.dx_base.specs.Object.{Tree, array, text, field, group, composite, series}
use Rattle.dx_print.specs.declared.parts.Listing.{Listing}
use Rattle.dx_print.specs.declared.parts.Listing.TheVariants.{Components, Members, PlacedMembers, Attributes}

-- arrays and texts have none
abbrev pub listing_of : Tree → Listing
listing_of (array a xs) = Attributes
listing_of (text b xs) = Attributes
listing_of (field ps xs) = Components
listing_of (group ps xs) = Members
listing_of (composite ps xs) = Members
listing_of (series ps xs) = PlacedMembers
