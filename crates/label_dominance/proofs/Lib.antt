mod OfferLaws
